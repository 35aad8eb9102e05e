-- Which media type of answers a client prefers (RFC 9110, 12.5.1 Accept).
use Rattle.std.specs.Prelude.{ℕ, ◌==◌, ◌&&◌, ◌||◌, List, [], ◌∷◌, fold, codes, if◌then◌else◌, nat_lt, Option, Some, None, flat_map}
use Rattle.httparse.specs.Grammar.{trim_ows}
use Rattle.http1.specs.Text.{eq_ignore_case}
use Rattle.http_header.specs.FieldValue.{FieldValue}
use Rattle.graphql_http.specs.Pieces.{Bytes, first_piece, behind_first, pieces}
use Rattle.graphql_http.specs.Weights.{weight_among}
pub use Rattle.graphql_http.specs.declared.accept.Preference.{Preference}
use Rattle.graphql_http.specs.declared.media.Media.{Media}
use Rattle.graphql_http.specs.declared.media.Media.TheVariants.{Response, Json}

-- the media types of answers
abbrev pub kind_of : Media → Bytes
kind_of Response = codes "application/graphql-response+json"
kind_of Json = codes "application/json"

-- how near a media range names a media type: it is the type, all of `application`, or all types
unfoldable pub nearness_of : Bytes → Bytes → ℕ
nearness_of range kind =
    if eq_ignore_case range kind then 3
    else if eq_ignore_case range (codes "application/*") then 2
    else if eq_ignore_case range (codes "*/*") then 1
    else 0

-- the same of an element of `Accept`: a media range, and parameters, of which the weight alone is
-- looked at
abbrev pub nearness : Bytes → Bytes → ℕ
nearness kind element = nearness_of (trim_ows (first_piece 59 element)) kind

abbrev pub weight : Bytes → ℕ
weight element = weight_among (pieces 59 (behind_first 59 element))

-- no range names it
abbrev pub unnamed : Preference
unnamed = record { nearness = 0; weight = 0 }

abbrev pub preference_of : Bytes → Bytes → Preference
preference_of kind element = record { nearness = nearness kind element; weight = weight element }

-- the nearer of the two, where the other names the media type; of two that are as near the heavier
abbrev pub nearer : Preference → Preference → Preference
nearer old new =
    if nat_lt 0 new.nearness
    && (nat_lt old.nearness new.nearness
    || ((new.nearness == old.nearness) && nat_lt old.weight new.weight))
    then new else old

abbrev pub preference_after : Bytes → Preference → Bytes → Preference
preference_after kind said element = nearer said (preference_of kind element)

-- the elements of all values, in order
abbrev pub elements : List FieldValue → List Bytes
elements values = flat_map (λ value. pieces 44 value.bytes) values

-- what the values say of a media type: the range that names it most nearly decides
abbrev pub preference_in : Bytes → List FieldValue → Preference
preference_in kind values = fold (preference_after kind) unnamed (elements values)

-- the media type that is preferred, if one is accepted: the one with the greater weight; of equal
-- weights `application/graphql-response+json` where a range is that type, else `application/json`
unfoldable pub preferred : Preference → Preference → Option Media
preferred response json =
    if nat_lt json.weight response.weight
    || ((response.nearness == 3) && (nat_lt 0 response.weight && (response.weight == json.weight)))
    then Some Response
    else if nat_lt 0 json.weight then Some Json else None

-- by the values of `Accept`, `application/json` where there are none
abbrev pub accepted : List FieldValue → Option Media
accepted [] = Some Json
accepted (value ∷ values) =
    preferred (preference_in (kind_of Response) (value ∷ values)) (preference_in (kind_of Json) (value ∷ values))
