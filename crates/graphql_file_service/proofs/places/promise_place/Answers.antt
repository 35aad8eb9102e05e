use Rattle.graphql_file_service.specs.FaultPlaces.{IsPromisePlace}
use Rattle.graphql_file_service.proofs.Placing.{in_outline, no_outline}
use Rattle.graphql_file_service.proofs.places.promise_place.Goals as goal

pub returns-in-Ok : goal.returns-in-Ok
returns-in-Ok c = in_outline c.args.schema.now IsPromisePlace c.in-Ok.outline c.promise_in.result c.in-Ok.ensures c.promise_in.ensures
