use Rattle.graphql_output_values.specs.Counts.{value_count}
use Rattle.graphql_output_values.proofs.value.Value.drop.Given as goal

abbrev pub decreases-values : goal.decreases-values
decreases-values g l = value_count l.self
