use Rattle.graphql_schema_files.proofs.ShapeFaults.{shape_faults_stand}
use Rattle.graphql_schema_files.proofs.laws.shape_faults_stand.Goals as goal

pub returns : goal.returns
returns c = shape_faults_stand
