use Rattle.std.proofs.Common.{◌≡◌, length}
use Rattle.std.specs.Str.{chars}
use denote.Text.{Utf8}
use denote.Shadow.{shadow}
use Rattle.graphql_scalars.specs.StringValue.{decoded_characters, string_value}
use Rattle.graphql_scalars.proofs.StringLemmas.{continued}
use Rattle.graphql_scalars.proofs.string_value.string_value.Given as goal

abbrev pub invariant-characters : goal.invariant-characters
invariant-characters l =
    shadow (Utf8 l.rest)
    × (continued l.value (decoded_characters (chars l.rest)) ≡ string_value l.text)

abbrev pub decreases-characters : goal.decreases-characters
decreases-characters l = length l.rest
