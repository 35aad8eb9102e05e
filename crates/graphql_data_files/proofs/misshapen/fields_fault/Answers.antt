use Rattle.std.proofs.Common.{◌≡◌, Some, None, refl, sym, subst, rules}
use Rattle.serde_json.specs.View.{members_view, view}
use Rattle.graphql_text.specs.Memory.{Gives}
use Rattle.graphql_data_files.specs.RecordShapes.{field_place, fields_fault, members_in}
use Rattle.graphql_data_files.specs.declared.shape_place.ShapePlace.TheVariants.{Fields}
use Rattle.graphql_data_files.proofs.misshapen.fields_fault.Goals as goal

pub returns-in-Some : goal.returns-in-Some
returns-in-Some c =
    let told : members_in (view c.args.json.now) ≡ Some (members_view c.in-Some.members.now.entries) = search rules in
    let named = subst (λ name. Gives c.field_place.result (field_place c.args.at name)) c.misshapen.ensures c.field_place.ensures in
    subst (λ o. Gives c.field_place.result (fields_fault c.args.at o)) (sym told) named

pub returns-in-None : goal.returns-in-None
returns-in-None c =
    let told : members_in (view c.args.json.now) ≡ None = search rules in
    subst (λ o. Some (Fields c.args.at) ≡ fields_fault c.args.at o) (sym told) refl
