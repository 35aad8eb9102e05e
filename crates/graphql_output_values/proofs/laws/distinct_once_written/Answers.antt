use Rattle.graphql_output_values.proofs.DistinctKeyLaws.{once_written}
use Rattle.graphql_output_values.proofs.laws.distinct_once_written.Goals as goal

pub returns : goal.returns
returns g c = once_written
