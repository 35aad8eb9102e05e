use Rattle.std.proofs.Common.{◌≡◌, length, false}
use Rattle.std.specs.Str.{chars}
use Rattle.graphql_text.specs.Tokens.{ahead_from}
use Rattle.graphql_lexer.proofs.tokens.ahead.Given as goal

abbrev pub invariant-loop-c : goal.invariant-loop-c
invariant-loop-c l = ahead_from l.is_comment l.end.at (chars l.end.rest.now) ≡ ahead_from false l.cursor.at (chars l.cursor.rest.now)

abbrev pub decreases-loop-c : goal.decreases-loop-c
decreases-loop-c l = length l.end.rest.now
