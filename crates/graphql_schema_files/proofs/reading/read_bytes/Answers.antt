use Rattle.serde_json.specs.View.{view}
use Rattle.graphql_lines.specs.Request.{data_of}
use Rattle.graphql_schema_files.proofs.Readings.{parsed, refused}
use Rattle.graphql_schema_files.proofs.reading.read_bytes.Goals as goal

pub returns-in-Ok : goal.returns-in-Ok
returns-in-Ok g c = parsed _ c.args.types (data_of c.args.bytes.now) (view c.in-Ok.json) c.read_json.result c.in-Ok.ensures c.read_json.ensures

pub returns-in-Err : goal.returns-in-Err
returns-in-Err g c = refused _ c.args.types (data_of c.args.bytes.now) c.in-Err.fault c.in-Err.ensures
