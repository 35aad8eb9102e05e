use Rattle.graphql_lexer.proofs.GrammarLaws.{one_fault}
use Rattle.graphql_lexer.proofs.laws.one_fault.Goals as goal

pub returns : goal.returns
returns c = one_fault
