use Rattle.std.proofs.Common.{◌≡◌, length}
use denote.Text.{Utf8}
use denote.Shadow.{shadow}
use Rattle.std.specs.List.{list_all}
use Rattle.std.specs.Str.{chars}
use Rattle.graphql_text.specs.Grammar.{is_string_character}
use Rattle.graphql_plain_text.proofs.writable.is_plain.Given as goal

abbrev pub invariant-characters : goal.invariant-characters
invariant-characters l = shadow (Utf8 l.rest) × (list_all is_string_character (chars l.rest) ≡ list_all is_string_character (chars l.text))

abbrev pub decreases-characters : goal.decreases-characters
decreases-characters l = length l.rest
