-- The parts of a field's value (RFC 9110, 5.6): elements of lists and parameters stand between
-- separators, and a separator within a quoted string is none.
use Rattle.std.specs.Prelude.{◌≡◌, ℕ, ◌+◌, ◌<◌, suc, ◌==◌, Bool, false, List, [], ◌∷◌, length, take, drop, filter, if◌then◌else◌}
use Rattle.form_urlencoded.specs.Form.{is_nonempty, onto_first}
pub use Rattle.graphql_http.specs.declared.pieces.Quoting.{Quoting}
pub use Rattle.graphql_http.specs.declared.pieces.Quoting.TheVariants.{Outside, Inside, Escaped}

abbrev pub Bytes : Type 0
Bytes = List ℕ

-- where the byte behind this one stands: a quoted string goes from `"` to `"`, and in it a
-- backslash takes the byte behind it
abbrev pub after : Quoting → ℕ → Quoting
after Outside b = if b == 34 then Inside else Outside
after Inside b = if b == 34 then Outside else if b == 92 then Escaped else Inside
after Escaped b = Inside

-- the byte is a separator that ends a piece
abbrev pub ends : Quoting → ℕ → ℕ → Bool
ends Outside separator b = b == separator
ends Inside separator b = false
ends Escaped separator b = false

-- how many bytes come before the end of a piece
unfoldable pub end_from : Quoting → ℕ → Bytes → ℕ
end_from quoting separator [] = 0
end_from quoting separator (b ∷ bs) =
    if ends quoting separator b then 0 else suc (end_from (after quoting b) separator bs)

abbrev pub first_piece : ℕ → Bytes → Bytes
first_piece separator text = take (end_from Outside separator text) text

abbrev pub behind_first : ℕ → Bytes → Bytes
behind_first separator text = drop (end_from Outside separator text + 1) text

unfoldable pub split_from : Quoting → ℕ → Bytes → List Bytes
split_from quoting separator [] = [] ∷ []
split_from quoting separator (b ∷ bs) =
    if ends quoting separator b then [] ∷ split_from Outside separator bs
    else onto_first b (split_from (after quoting b) separator bs)

-- what stands between separators and is not empty
unfoldable pub pieces : ℕ → Bytes → List Bytes
pieces separator text = filter is_nonempty (split_from Outside separator text)

-- this piece comes first, and the others are those of the rest
pub record IsNextPiece (separator : ℕ) (text piece rest : Bytes) : Type 0 where
  pub pieces : pieces separator text ≡ piece ∷ pieces separator rest
  pub fewer : length rest < length text
