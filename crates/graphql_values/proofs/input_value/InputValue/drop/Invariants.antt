use Rattle.graphql_values.specs.Counts.{value_count}
use Rattle.graphql_values.proofs.input_value.InputValue.drop.Given as goal

abbrev pub decreases-values : goal.decreases-values
decreases-values g l = value_count l.self
