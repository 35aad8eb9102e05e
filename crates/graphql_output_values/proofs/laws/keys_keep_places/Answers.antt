use Rattle.graphql_output_values.proofs.PutLaws.{keys_keep_places}
use Rattle.graphql_output_values.proofs.laws.keys_keep_places.Goals as goal

pub returns : goal.returns
returns g c = keys_keep_places
