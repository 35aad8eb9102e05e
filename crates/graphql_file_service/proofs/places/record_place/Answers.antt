use Rattle.graphql_file_service.specs.FaultPlaces.{IsRecordPlace}
use Rattle.graphql_file_service.proofs.Placing.{in_outline, no_outline}
use Rattle.graphql_file_service.proofs.places.record_place.Goals as goal

pub returns-in-Ok : goal.returns-in-Ok
returns-in-Ok c = in_outline c.args.schema.now (IsRecordPlace c.args.records.now c.args.fault) c.in-Ok.outline c.record_in.result c.in-Ok.ensures c.record_in.ensures
