use Rattle.std.proofs.Common.{Some, None, refl, subst}
use Rattle.graphql_data_files.specs.RecordPlaces.{IsPlace}
use Rattle.graphql_file_service.proofs.places.record_in.Goals as goal

pub returns-in-Some : goal.returns-in-Some
returns-in-Some c =
    let at = Some c.in-Some.at in
    let told = subst (IsPlace c.in_ok-types.types c.args.fault c.args.records.now) c.in-Some.is c.in_ok-at.ensures in
    (at, subst (λ types. IsPlace types c.args.fault c.args.records.now at) c.in_ok-types.ensures told, refl)

pub returns : goal.returns
returns c =
    let told = subst (IsPlace c.in_ok-types.types c.args.fault c.args.records.now) c.in-None.is c.in_ok-at.ensures in
    (None, subst (λ types. IsPlace types c.args.fault c.args.records.now None) c.in_ok-types.ensures told, refl)
