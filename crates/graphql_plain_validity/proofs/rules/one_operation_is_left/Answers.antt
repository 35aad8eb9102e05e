use Rattle.graphql_plain_validity.proofs.NameRules.{one-operation-is-left}
use Rattle.graphql_plain_validity.proofs.rules.one_operation_is_left.Goals as goal

pub returns : goal.returns
returns g c = one-operation-is-left _ _
