use Rattle.graphql_schema_files.proofs.Readings.{not_conforming, conforming}
use Rattle.graphql_schema_files.proofs.reading.rooted.Goals as goal

pub returns-in-Some : goal.returns-in-Some
returns-in-Some g c =
    not_conforming _ c.args.file.now c.args.schema c.as_slice.result.now c.as_slice.ensures _ c.in_ok-place.ensures c.in-Some.place c.in-Some.is

pub returns-in-None : goal.returns-in-None
returns-in-None g c =
    conforming _ c.args.file.now c.args.schema c.as_slice.result.now c.as_slice.ensures _ c.in_ok-place.ensures c.new.result c.new.ensures c.in-None.is
