use Rattle.graphql_plain_tree.proofs.OperationsAgain.{operation-again}
use Rattle.graphql_plain_tree.proofs.laws.operation_again.Goals as goal

pub returns : goal.returns
returns g c = operation-again g.S.ScalarValue.answer g.S.ScalarValue.of_bool g.met.S.ScalarValue.bool_answers
