use Rattle.graphql_lexer.proofs.DividedLaws.{few_tokens}
use Rattle.graphql_lexer.proofs.laws.few_tokens.Goals as goal

pub returns : goal.returns
returns c = few_tokens
