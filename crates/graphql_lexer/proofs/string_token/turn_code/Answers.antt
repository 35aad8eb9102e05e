use Rattle.std.specs.Str.{chars}
use Rattle.std.proofs.Common.{subst}
use Rattle.graphql_text.specs.Reading.{IsTail}
use Rattle.graphql_lexer.proofs.StringTurns.{tail_next}
use Rattle.graphql_lexer.proofs.string_token.turn_code.Goals as goal

pub bad_escape-requires-else-is_code : goal.bad_escape-requires-else-is_code
bad_escape-requires-else-is_code c =
    tail_next (chars c.args.from.rest.now) c.args.c (chars c.args.next.rest.now) (subst (IsTail (chars c.args.from.rest.now)) c.requires.next c.requires.tail)
