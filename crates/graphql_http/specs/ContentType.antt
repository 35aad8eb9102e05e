-- The media type of a request's body (GraphQL over HTTP, POST; RFC 9110, 8.3 Content-Type).
use Rattle.std.specs.Prelude.{◌&&◌, ◌||◌, Bool, true, false, codes, if◌then◌else◌, Option, Some, None}
use Rattle.std.specs.List.{list_all}
use Rattle.httparse.specs.Grammar.{trim_ows}
use Rattle.http1.specs.Text.{eq_ignore_case}
use Rattle.http_header.specs.FieldValue.{FieldValue}
use Rattle.graphql_http.specs.Pieces.{Bytes, first_piece, behind_first, pieces}

-- the name of a charset, which may be quoted
abbrev pub is_utf8_name : Bytes → Bool
is_utf8_name name = eq_ignore_case name (codes "utf-8") || eq_ignore_case name (codes "\"utf-8\"")

-- the parameter tells no other charset than UTF-8
abbrev pub leaves_utf8 : Bytes → Bool
leaves_utf8 parameter =
    if eq_ignore_case (trim_ows (first_piece 61 parameter)) (codes "charset")
    then is_utf8_name (trim_ows (behind_first 61 parameter)) else true

-- `application/json` in UTF-8, which it is where no charset is told
unfoldable pub is_json : Bytes → Bool
is_json value =
    eq_ignore_case (trim_ows (first_piece 59 value)) (codes "application/json")
    && list_all leaves_utf8 (pieces 59 (behind_first 59 value))

abbrev pub has_json : Option FieldValue → Bool
has_json None = false
has_json (Some value) = is_json value.bytes
