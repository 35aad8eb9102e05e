use Rattle.graphql_values.proofs.VariableLaws.{constants_stay, no_variable_stays, only_missing_values_fail}
use Rattle.graphql_values.proofs.laws.variables_are_replaced.Goals as goal

pub returns-clause-stay : goal.returns-clause-stay
returns-clause-stay g c = constants_stay _

pub returns-clause-constant : goal.returns-clause-constant
returns-clause-constant g c = no_variable_stays _

pub returns-clause-fail : goal.returns-clause-fail
returns-clause-fail g c = only_missing_values_fail _
