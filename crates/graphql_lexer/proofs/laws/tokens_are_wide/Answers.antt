use Rattle.graphql_lexer.proofs.DividedLaws.{tokens_are_wide}
use Rattle.graphql_lexer.proofs.laws.tokens_are_wide.Goals as goal

pub returns : goal.returns
returns c = tokens_are_wide
