use Rattle.graphql_plain_text.proofs.OperationsAgain.{again_document}
use Rattle.graphql_plain_text.proofs.laws.operation_again.Goals as goal

pub returns : goal.returns
returns g c = again_document _ _
