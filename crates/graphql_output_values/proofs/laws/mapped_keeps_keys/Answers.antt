use Rattle.graphql_output_values.proofs.DistinctKeyLaws.{keeps_keys}
use Rattle.graphql_output_values.proofs.laws.mapped_keeps_keys.Goals as goal

pub returns : goal.returns
returns g c = keeps_keys
