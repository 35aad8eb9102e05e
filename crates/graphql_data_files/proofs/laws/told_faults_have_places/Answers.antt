use Rattle.graphql_data_files.proofs.ToldPlaces.{told_faults_have_places}
use Rattle.graphql_data_files.proofs.laws.told_faults_have_places.Goals as goal

pub returns : goal.returns
returns c = told_faults_have_places
