use Rattle.std.proofs.Common.{◌≡◌, ◌-◌, ◌∷◌, ◌++◌}
use Rattle.std.specs.Prelude.{encode_utf8_all}
use Rattle.std.specs.Str.{chars}
use denote.Text.{Utf8}
use denote.Shadow.{shadow}
use Rattle.graphql_scalars.specs.StringValue.{letters}
use Rattle.graphql_scalars.proofs.string_value.code_letters.Given as goal

abbrev pub invariant-letters : goal.invariant-letters
invariant-letters l =
    shadow (Utf8 l.rest)
    × (l.escape ++ encode_utf8_all (letters (4 - l._letter) (chars l.rest)) ≡ 92 ∷ 117 ∷ encode_utf8_all (letters 4 (chars l.text)))
