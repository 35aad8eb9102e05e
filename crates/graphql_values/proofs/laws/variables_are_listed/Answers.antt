use Rattle.graphql_values.proofs.VariableLaws.{variables_are_listed, none_is_listed}
use Rattle.graphql_values.proofs.laws.variables_are_listed.Goals as goal

pub returns-clause-listed : goal.returns-clause-listed
returns-clause-listed g c = variables_are_listed _

pub returns-clause-none : goal.returns-clause-none
returns-clause-none g c = none_is_listed _
