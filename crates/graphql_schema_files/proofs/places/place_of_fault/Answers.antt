use Rattle.std.proofs.Common.{IfOk, sym, subst}
use Rattle.graphql_json.specs.Parts.{◌>>=◌}
use Rattle.graphql_schema_files.specs.DeclarationPlaces.{IsPlaceOf}
use Rattle.graphql_schema_files.specs.Shapes.{schema_of}
use Rattle.graphql_schema_files.proofs.places.place_of_fault.Goals as goal

pub returns-in-Ok : goal.returns-in-Ok
returns-in-Ok c = subst (λ o. IfOk c.place_in_json.result (IsPlaceOf c.args.fault.now (o >>= schema_of))) (sym c.in-Ok.ensures) c.place_in_json.ensures
