use Rattle.graphql_output_values.proofs.DistinctKeyLaws.{made_throughout}
use Rattle.graphql_output_values.proofs.laws.made_distinct_throughout.Goals as goal

pub returns : goal.returns
returns g c = made_throughout
