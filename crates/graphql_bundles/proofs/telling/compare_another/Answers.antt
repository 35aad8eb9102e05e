use Rattle.std.proofs.Common.{◌≡◌, ◌∙◌, ap, sym, subst, [], ◌∷◌, Some, slice_get}
use Rattle.std.proofs.lemmas.Option.{get_or_from_slice_get}
use Rattle.std.proofs.lemmas.Result.{on_ok_weaker}
use Rattle.graphql_values.proofs.SameValueLaws.{same_as_itself}
use Rattle.graphql_bundles.specs.Conflicts.{places}
use Rattle.graphql_merging.specs.Merging.{Agree}
use Rattle.graphql_merging.specs.Selected.{member_of}
use Rattle.graphql_merging.specs.Told.{AddsErrors}
use Rattle.graphql_merging.specs.declared.table.WrittenField.{WrittenField}
use Rattle.graphql_merging.proofs.Reports.{adds-none}
use Rattle.graphql_merging.proofs.Standing.{agrees-with-itself}
use Rattle.graphql_bundles.proofs.telling.compare_another.Goals as goal

one-item : {X : Type 0} (x y : X) → Some x ≡ Some y → x ≡ y
one-item x y e = cc

pub returns-then-place-other-clause-told : goal.returns-then-place-other-clause-told
returns-then-place-other-clause-told g c = λ fragments left right at there.
    let eq = g.S.PartialEq.eq in
    let types = c.args.schema.now.types in
    let same : left ≡ right = one-item left right (sym at ∙ ap (slice_get c.args.group.now) c.if-place-other.true ∙ there) in
    adds-none (Agree eq types c.args.around) (member_of fragments left.selected) (member_of fragments right.selected) (places c.args.told.now)
    (subst (λ (r : WrittenField g.row.S.Denot g.row.C.Denot). Agree eq types c.args.around (member_of fragments left.selected) (member_of fragments r.selected)) same
    (agrees-with-itself g.row.S.Denot g.row.C.Denot eq (same_as_itself eq g.met.S.Eq.laws) types c.args.around (member_of fragments left.selected)))

pub returns-clause-told : goal.returns-clause-told
returns-clause-told g c =
    on_ok_weaker c.compare.result
    (λ told fragments left right at there.
    let group = c.args.group.now in
    let one = c.index-group-place.is ∙ get_or_from_slice_get group c.args.place left c.index-group-place.result at in
    let other = c.index-group-other.is ∙ get_or_from_slice_get group c.args.other right c.index-group-other.result there in
    let F = Agree g.S.PartialEq.eq c.args.schema.now.types c.args.around in
    subst (λ (r : WrittenField g.row.S.Denot g.row.C.Denot). AddsErrors F ((member_of fragments left.selected, member_of fragments r.selected) ∷ []) (places c.args.told.now) (places c.compare.new.told)) other
    (subst (λ (l : WrittenField g.row.S.Denot g.row.C.Denot). AddsErrors F ((member_of fragments l.selected, member_of fragments c.index-group-other.result.selected) ∷ []) (places c.args.told.now)
    (places c.compare.new.told)) one (told fragments)))
    c.compare.ensures.told
