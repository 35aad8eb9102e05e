use Rattle.graphql_schema_files.proofs.ToldPlaces.{told_faults_have_places}
use Rattle.graphql_schema_files.proofs.laws.told_faults_have_places.Goals as goal

pub returns : goal.returns
returns g c = told_faults_have_places _
