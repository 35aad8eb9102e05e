use Rattle.graphql_lines.specs.Request.{data_of}
use Rattle.graphql_schema_files.proofs.Conditions.{conditions_read}
use Rattle.graphql_schema_files.proofs.Readings.{by_same_types}
use Rattle.graphql_schema_files.proofs.Scalars.{scalars_read}
use Rattle.graphql_schema_files.proofs.reading.SchemaFile.read.Goals as goal

pub returns-clause-read : goal.returns-clause-read
returns-clause-read g c = by_same_types _ c.in_ok-types.types _ (data_of c.args.bytes.now) c.read_bytes.result c.in_ok-types.ensures c.read_bytes.ensures

pub returns-clause-scalars : goal.returns-clause-scalars
returns-clause-scalars g c =
    let checks = c.args.checks in
    scalars_read checks.int checks.string checks.boolean checks.id checks.introspection _ (data_of c.args.bytes.now) c.read_bytes.result
    (by_same_types _ c.in_ok-types.types _ (data_of c.args.bytes.now) c.read_bytes.result c.in_ok-types.ensures c.read_bytes.ensures)

pub returns-clause-conditions : goal.returns-clause-conditions
returns-clause-conditions g c = conditions_read _ c.in_ok-types.types (data_of c.args.bytes.now) c.read_bytes.result c.read_bytes.ensures
