use Rattle.graphql_output_values.proofs.DistinctKeyLaws.{stay_in_place}
use Rattle.graphql_output_values.proofs.laws.keys_stay_in_place.Goals as goal

pub returns : goal.returns
returns g c = stay_in_place
