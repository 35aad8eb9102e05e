use Rattle.std.proofs.Common.{rules, [], ◌∷◌}
use Rattle.graphql_lexer.proofs.tokens.token.Goals as goal

pub name-requires : goal.name-requires
name-requires c = record { front = c.in-Some.c ∷ []; is = search rules }
