use Rattle.std.proofs.Common.{◌≡◌, length}
use Rattle.std.specs.Str.{chars}
use Rattle.graphql_text.specs.Reading.{past}
use Rattle.graphql_lexer.proofs.scan.past.Given as goal

abbrev pub invariant-loop-c : goal.invariant-loop-c
invariant-loop-c l = past l.class l.end.at (chars l.end.rest.now) ≡ past l.class l.cursor.at (chars l.cursor.rest.now)

abbrev pub decreases-loop-c : goal.decreases-loop-c
decreases-loop-c l = length l.end.rest.now
