use Rattle.std.proofs.Common.{◌≡◌, ◌∙◌, ◌+◌, ◌-◌, ◌≤◌, OnOk, arith, ap, length, sym, subst, slice_get, Some, List, [], ◌∷◌, refl}
use Rattle.std.proofs.lemmas.Bool.{false≢true}
use Rattle.std.proofs.lemmas.Bool.Decides.{Decides-eqb}
use Rattle.std.proofs.lemmas.Result.{on_ok_weaker}
use Rattle.graphql_bundles.specs.Conflicts.{places}
use Rattle.graphql_bundles.proofs.CompareLemmas.{part-none, part-some}
use Rattle.graphql_bundles.proofs.ListLemmas.{found-at}
use Rattle.graphql_bundles.proofs.heads.compare_part.Goals as goal

none-in : {X : Type 0} (xs : List X) → length xs ≡ 0 → xs ≡ []
none-in [] e = λ i. []
none-in (x ∷ xs) e = absurd (omega (arith, e))

first-in : {X : Type 0} (xs : List X) → (length xs ≡ 0 → ⊥) → (x : X) × (slice_get xs 0 ≡ Some x)
first-in [] some = absurd (some refl)
first-in (x ∷ xs) some = (x, refl)

pub returns-then-is_empty-clause-told : goal.returns-then-is_empty-clause-told
returns-then-is_empty-clause-told g c = λ fragments.
    let part = c.as_slice-part.result.now in
    let empty = none-in part ((Decides-eqb (length part) 0).0 (sym c.is_empty.ensures ∙ c.if-is_empty.true)) in
    part-none g.S.PartialEq.eq c.args.schema.now.types fragments c.args.group.now c.args.name.now (places c.args.told.now)
    (sym (c.as_slice-part.ensures ∙ c.in_ok-fields.ensures) ∙ empty)

pub returns-clause-told : goal.returns-clause-told
returns-clause-told g c =
    let part = c.as_slice-part.result.now in
    let h = first-in part (λ e. false≢true (sym c.if-is_empty.false ∙ c.is_empty.ensures ∙ (Decides-eqb (length part) 0).1 e)) in
    on_ok_weaker c.compare_with.result
    (λ told fragments. part-some g.S.PartialEq.eq c.args.schema.now.types fragments c.args.group.now c.args.name.now h.0 part
    (places c.args.told.now) (places c.compare_with.new.told) (c.as_slice-part.ensures ∙ c.in_ok-fields.ensures)
    (found-at part 0 h.0 h.1) (told fragments h.0 h.1))
    c.compare_with.ensures.told

pub returns-clause-counted : goal.returns-clause-counted
returns-clause-counted g c =
    let fields = ap length (c.as_slice-part.ensures ∙ c.in_ok-fields.ensures) in
    subst (λ n. OnOk c.compare_with.result (c.compare_with.new.comparisons ≤ c.args.comparisons.now + (n - 1))) fields c.compare_with.ensures.counted
