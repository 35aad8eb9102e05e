use Rattle.graphql_schema_files.proofs.ShapeFaults.{told_shapes_have_faults}
use Rattle.graphql_schema_files.proofs.laws.told_shapes_have_faults.Goals as goal

pub returns : goal.returns
returns g c = told_shapes_have_faults _
