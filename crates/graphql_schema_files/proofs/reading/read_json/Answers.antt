use Rattle.std.proofs.Common.{◌≡◌, Some, None, rules}
use Rattle.serde_json.specs.View.{view}
use Rattle.graphql_schema_files.specs.Shapes.{schema_of}
use Rattle.graphql_schema_files.proofs.Readings.{drafted, shapeless}
use Rattle.graphql_schema_files.proofs.reading.read_json.Goals as goal

pub returns-in-Some : goal.returns-in-Some
returns-in-Some g c =
    let told : schema_of (view c.args.json.now) ≡ Some c.in-Some.file = search rules in
    drafted _ c.args.types (schema_of (view c.args.json.now)) c.in-Some.file c.read_draft.result told c.read_draft.ensures

pub returns-in-None : goal.returns-in-None
returns-in-None g c =
    let told : schema_of (view c.args.json.now) ≡ None = search rules in
    shapeless _ c.args.types (schema_of (view c.args.json.now)) told
