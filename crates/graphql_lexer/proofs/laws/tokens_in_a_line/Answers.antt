use Rattle.graphql_lexer.proofs.DividedLaws.{tokens_in_a_line}
use Rattle.graphql_lexer.proofs.laws.tokens_in_a_line.Goals as goal

pub returns : goal.returns
returns c = tokens_in_a_line
