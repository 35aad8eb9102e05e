use Rattle.std.proofs.Common.{◌≡◌, Some, None, IfOk, refl, sym, subst, rules}
use Rattle.serde_json.specs.View.{view}
use Rattle.graphql_data_files.specs.Drafts.{file_of}
use Rattle.graphql_data_files.specs.LentDrafts.{file_told}
use Rattle.graphql_data_files.specs.RecordPlaces.{IsPlaceOf}
use Rattle.graphql_data_files.proofs.places.place_in_json.Goals as goal

pub returns-in-Some : goal.returns-in-Some
returns-in-Some c =
    let told : file_of (view c.args.json.now) ≡ Some (file_told c.in-Some.file) = search rules in
    subst (λ o. IfOk c.place_in.result (IsPlaceOf c.args.types.now c.args.fault o)) (sym told) c.place_in.ensures

pub returns-in-None : goal.returns-in-None
returns-in-None c =
    let told : file_of (view c.args.json.now) ≡ None = search rules in
    subst (λ o. IsPlaceOf c.args.types.now c.args.fault o None) (sym told) refl
