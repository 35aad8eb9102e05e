use Rattle.graphql_plain_validity.proofs.LocalRules.{variables-stay-input}
use Rattle.graphql_plain_validity.proofs.rules.variables_stay_of_input_types.Goals as goal

pub returns : goal.returns
returns g c = variables-stay-input _ _
