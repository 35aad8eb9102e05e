use Rattle.std.proofs.Common.{◌≡◌, ◌∙◌, sym, subst, false, inl, inr}
use Rattle.graphql_merging.specs.declared.table.WrittenField.{WrittenField}
use Rattle.graphql_bundles.specs.Groups.{is_declared}
use Rattle.graphql_bundles.proofs.ListLemmas.{take-cases}
use Rattle.graphql_bundles.proofs.heads.first_declared.Goals as goal

pub loop-place-preserved : goal.loop-place-preserved
loop-place-preserved g c = λ f i.
    elim (take-cases c.args.group.now c.loop-place.place c.index-group-place.result c.loop-place-test.true c.index-group-place.is f i) [
      | inl j ↦ c.loop-place.invariant f j
      | inr e ↦ subst (λ (h : WrittenField g.row.S.Denot g.row.C.Denot). is_declared h ≡ false) e (sym c.is_declared.ensures ∙ c.if-is_declared.false)
    ]
