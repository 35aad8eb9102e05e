use Rattle.std.proofs.Common.{Some, None, refl, subst}
use Rattle.graphql_schema_files.specs.DeclarationPlaces.{IsPlace}
use Rattle.graphql_file_service.proofs.places.declaration_place.Goals as goal

pub returns-in-Some : goal.returns-in-Some
returns-in-Some c = (Some c.in-Some.at, subst (IsPlace c.args.fault.now c.args.schema.now) c.in-Some.is c.in_ok-at.ensures, refl)

pub returns-in-None : goal.returns-in-None
returns-in-None c = (None, subst (IsPlace c.args.fault.now c.args.schema.now) c.in-None.is c.in_ok-at.ensures, refl)
