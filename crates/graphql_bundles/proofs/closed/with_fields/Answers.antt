use Rattle.std.proofs.Common.{◌≡◌, ap, sym, subst, ◌∙◌, List, [], take_all, get_or, ◌⊎◌, ◌↔◌, ℕ}
use Rattle.std.specs.List.{Contains}
use Rattle.std.proofs.lemmas.Bool.{false≢true}
use Rattle.graphql_values.proofs.SameValueLemmas.{get_or_any}
use Rattle.graphql_merging.specs.Tables.{pieces_of}
use Rattle.graphql_bundles.specs.Closed.{AreThose}
use Rattle.graphql_bundles.proofs.ClosedLemmas.{those-more, step-kept, step-dropped, those-sorted}
use Rattle.graphql_bundles.proofs.closed.with_fields.Goals as goal
use Rattle.graphql_bundles.proofs.closed.with_fields.Goals.{then-has_fields+in_ok-push, else-has_fields}

pub loop-number-preserved : goal.loop-number-preserved
loop-number-preserved g c = λ fragments.
    let P = λ (number : ℕ). (pieces_of {C = g.row.C.Denot} fragments c.args.table.now).direct number ≡ [] → ⊥ in
    let i = c.loop-number.number-index in
    let x = get_or c.args.sets.now i 0 in
    let is = get_or_any c.args.sets.now i 0 x c.loop-number-test.true in
    let Step = λ (ys : List ℕ). (n : ℕ) → Contains ys n ↔ (Contains c.loop-number.some.items n ⊎ ((n ≡ x) × P n)) in
    elim c.if-has_fields.branch [
      | then-has_fields+in_ok-push w ↦ those-more P c.args.sets.now i x c.loop-number.some.items c.if-has_fields.some.items c.loop-number-test.true is (c.loop-number.invariant fragments)
          (subst Step (sym (ap (λ v. v.items) w.some-is ∙ w.in_ok-push.ensures.items)) (step-kept P c.loop-number.some.items x ((c.has_fields.ensures fragments).0 w.if-has_fields.true)))
      | else-has_fields w ↦ those-more P c.args.sets.now i x c.loop-number.some.items c.if-has_fields.some.items c.loop-number-test.true is (c.loop-number.invariant fragments)
          (subst Step (sym (ap (λ v. v.items) w.some-is))
          (step-dropped P c.loop-number.some.items x (λ p. false≢true (sym w.if-has_fields.false ∙ (c.has_fields.ensures fragments).1 p))))
    ]

pub returns : goal.returns
returns g c = λ fragments.
    let P = λ (number : ℕ). (pieces_of {C = g.row.C.Denot} fragments c.args.table.now).direct number ≡ [] → ⊥ in
    those-sorted P c.args.sets.now c.loop-number.some.items c.sort_unstable.new.self.items c.sort_unstable.ensures.permutation
    (subst (λ xs. AreThose P xs c.loop-number.some.items) (take_all c.loop-number.number-index c.args.sets.now c.loop-number-test.false) (c.loop-number.invariant fragments))
