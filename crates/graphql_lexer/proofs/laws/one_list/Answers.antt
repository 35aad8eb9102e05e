use Rattle.graphql_lexer.proofs.GrammarLaws.{one_list}
use Rattle.graphql_lexer.proofs.laws.one_list.Goals as goal

pub returns : goal.returns
returns c = one_list
