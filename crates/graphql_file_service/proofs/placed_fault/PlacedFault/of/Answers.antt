use Rattle.std.proofs.Common.{refl}
use Rattle.graphql_file_service.proofs.Placing.{found_placed}
use Rattle.graphql_file_service.proofs.placed_fault.PlacedFault.of.Goals as goal

pub returns-in-Ok : goal.returns-in-Ok
returns-in-Ok c = (refl, found_placed c.args.schema.now c.args.records.now c.args.fault c.in-Ok.place c.in-Ok.ensures)
