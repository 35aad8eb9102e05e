use Rattle.graphql_lexer.proofs.OneByOneLaws.{same_one_by_one}
use Rattle.graphql_lexer.proofs.laws.same_one_by_one.Goals as goal

pub returns : goal.returns
returns c = same_one_by_one
