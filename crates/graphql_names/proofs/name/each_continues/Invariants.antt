use Rattle.std.proofs.Common.{◌↔◌, length}
use Rattle.std.specs.Str.{chars}
use denote.Text.{Utf8}
use denote.Shadow.{shadow}
use Rattle.graphql_text.specs.Grammar.{Each}
use Rattle.graphql_text.specs.Characters.{continues_name}
use Rattle.graphql_names.proofs.name.each_continues.Given as goal

abbrev pub invariant-characters : goal.invariant-characters
invariant-characters l =
    shadow (Utf8 l.rest)
    × (Each continues_name (chars l.rest) ↔ Each continues_name (chars l.text))

abbrev pub decreases-characters : goal.decreases-characters
decreases-characters l = length l.rest
