use Rattle.graphql_output_values.proofs.DistinctKeyLaws.{under_keys}
use Rattle.graphql_output_values.proofs.laws.distinct_under_keys.Goals as goal

pub returns : goal.returns
returns g c = under_keys
