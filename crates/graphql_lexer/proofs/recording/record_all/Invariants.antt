use Rattle.std.proofs.Common.{length}
use Rattle.std.specs.Str.{chars}
use Rattle.graphql_text.specs.Reading.{start_of, place_of, IsTail}
use Rattle.graphql_text.specs.Tokens.{Runs}
use Rattle.graphql_lexer.specs.Records.{AllStand, tokens_in}
use Rattle.graphql_lexer.proofs.recording.record_all.Given as goal

abbrev pub invariant-tokens : goal.invariant-tokens
invariant-tokens l = Runs (start_of (chars l.source)) (tokens_in l.source l.out.items) (place_of l.cursor) × IsTail (chars l.source) (chars l.cursor.rest.now) × AllStand l.source l.out.items

abbrev pub decreases-tokens : goal.decreases-tokens
decreases-tokens l = length (chars l.cursor.rest.now)
