use Rattle.graphql_plain_validity.proofs.VariableNames.{variable-names-stay}
use Rattle.graphql_plain_validity.proofs.variables.variable_names_stay_distinct.Goals as goal

pub returns : goal.returns
returns g c = variable-names-stay _ _
