use Rattle.graphql_schema_files.proofs.ToldPlaces.{faults_have_places}
use Rattle.graphql_schema_files.proofs.laws.faults_have_places.Goals as goal

pub returns : goal.returns
returns c = faults_have_places
