use Rattle.std.proofs.Common.{[], ◌∷◌}
use Rattle.graphql_lexer.proofs.string_token.turn_escape.Goals as goal

pub bad_escape-requires : goal.bad_escape-requires
bad_escape-requires c = record { front = c.args.c ∷ []; is = c.requires }
