-- The weights of media ranges, in thousandths (RFC 9110, 12.4.2 Quality Values).
use Rattle.std.specs.Prelude.{ℕ, ◌+◌, ◌*◌, ◌-◌, ◌==◌, ◌||◌, not, List, [], ◌∷◌, codes, if◌then◌else◌, nat_lt, slice_index, length, Option, Some, None, unwrap_or}
use Rattle.std.specs.Char.{is_ascii_digit}
use Rattle.httparse.specs.Grammar.{trim_ows}
use Rattle.http1.specs.Text.{eq_ignore_case}
use Rattle.graphql_http.specs.Pieces.{Bytes, first_piece, behind_first}

abbrev pub digit : ℕ → ℕ
digit byte = if is_ascii_digit byte then byte - 48 else 0

-- the digit at a place, if there is one
abbrev pub digit_at : Bytes → ℕ → ℕ
digit_at text place = if nat_lt place (length text) then digit (slice_index text place) else 0

-- `0`, `0.` and up to three digits, or `1` and what follows it, which is taken for 1
unfoldable pub weight_of : Bytes → ℕ
weight_of text =
    if (length text == 0) || not (slice_index text 0 == 48) then 1000
    else digit_at text 2 * 100 + digit_at text 3 * 10 + digit_at text 4

-- the weight that a parameter tells, if it is named `q`
abbrev pub weight_told : Bytes → Option ℕ
weight_told parameter =
    if eq_ignore_case (trim_ows (first_piece 61 parameter)) (codes "q")
    then Some (weight_of (trim_ows (behind_first 61 parameter))) else None

-- the weight that parameters tell: the first that does; 1 where none does
abbrev pub weight_among : List Bytes → ℕ
weight_among [] = 1000
weight_among (parameter ∷ parameters) = unwrap_or (weight_told parameter) (weight_among parameters)
