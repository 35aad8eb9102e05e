use Rattle.std.proofs.Common.{sym}
use Rattle.graphql_lines.specs.Request.{data_of}
use Rattle.graphql_schema_files.proofs.Readings.{refused_json}
use Rattle.graphql_schema_files.proofs.reading.json_of.Goals as goal

pub returns-in-Ok : goal.returns-in-Ok
returns-in-Ok c = sym c.in-Ok.ensures

pub returns-in-Err : goal.returns-in-Err
returns-in-Err c = refused_json c.in-Err.refusal (data_of c.args.bytes.now) c.fault_of.result c.fault_of.ensures c.in-Err.ensures
