use Rattle.graphql_requests.proofs.Exclusive.{one-executed}
use Rattle.graphql_requests.proofs.laws.one_operation_is_executed.Goals as goal

pub returns : goal.returns
returns g c = λ a document other operation another. one-executed _ a document other operation another
