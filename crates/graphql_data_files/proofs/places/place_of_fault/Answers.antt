use Rattle.graphql_data_files.proofs.Placing.{shape_placed}
use Rattle.graphql_data_files.proofs.places.place_of_fault.Goals as goal

pub returns-in-BadShape : goal.returns-in-BadShape
returns-in-BadShape c = shape_placed c.args.types.now c.args.fault c.args.bytes.now c.shape_place.result c.in-BadShape.is c.shape_place.ensures
