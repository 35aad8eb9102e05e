-- Of the items of a list that count as the same the first is kept.
use Rattle.std.proofs.Common.{◌≡◌, refl, ap, sym, subst, ◌∙◌, zero, suc, arith, Bool, true, List, [], ◌∷◌, ◌⊎◌, inl, inr, Ordering, is_lt}
use Rattle.std.specs.Cmp.{IsEquivalence, IsTotalOrder}
use Rattle.std.specs.List.{AllPairs, Any, Contains, dedup, dedup_from}
use Rattle.std.specs.List.Sorted.{IsStrictlySortedBy}
use Rattle.std.specs.Ordering.{ordering_reverse}
use Rattle.std.proofs.lemmas.Bool.{cond_both, false≢true}
use Rattle.std.proofs.lemmas.List.Elements.{All-contains}
use Rattle.std.proofs.lemmas.List.Kept.{AllPairs-cons}
use Rattle.std.proofs.lemmas.Map.Keys.{sorted_tail}
use Rattle.std.proofs.lemmas.Map.Views.{All-after_first}
use Rattle.graphql_merging.proofs.Nested.{in-nothing}
use Rattle.graphql_rules_merging.proofs.Lists.{first_or_rest}

module _ {X : Type 0} where
  any-later : (P : X → Type 0) (y : X) (l : List X) → Any P l → Any P (y ∷ l)
  any-later P y l a = (suc a.0, a.1, omega (arith, a.2), a.3, a.4)

module _ {X : Type 0} {E : X → X → Bool} (e : IsEquivalence E) (Low : X → X → Type 0) (itself : (x : X) → Low x x) where
  abbrev Kept : X → X → Type 0
  Kept z y = (E z y ≡ true) × Low y z

  low-from : (xs : List X) (k z : X) → AllPairs Low (k ∷ xs) → Kept z k ⊎ Contains xs z → Any (Kept z) (dedup_from E k xs)
  low-from [] k z up h = elim h [ inl a ↦ (0, k, omega arith, refl, a) | inr c ↦ in-nothing z c ]
  low-from (x ∷ xs) k z up h =
      let close : Low k x = up zero (suc zero) k (omega arith) (omega arith) in
      let tail : AllPairs Low (x ∷ xs) = λ i j d below inside. up (suc i) (suc j) d (omega arith) (omega arith) in
      let without : AllPairs Low (k ∷ xs) =
      AllPairs-cons Low k xs (λ j d inside. up zero (suc (suc j)) d (omega arith) (omega arith))
      (λ i j d below inside. up (suc (suc i)) (suc (suc j)) d (omega arith) (omega arith)) in
      cond_both (E x k) (dedup_from E k xs) (k ∷ dedup_from E x xs) (Any (Kept z))
      (λ same. low-from xs k z without (elim h [
        | inl a ↦ inl a
        | inr c ↦ elim (first_or_rest x xs z c) [
          | inl is ↦ inl (subst (λ (w : X). Kept w k) is (same, close))
          | inr i ↦ inr i
        ]
      ]))
      (λ _. elim h [
        | inl a ↦ (0, k, omega arith, refl, a)
        | inr c ↦ any-later (Kept z) k (dedup_from E x xs) (low-from xs x z tail (elim (first_or_rest x xs z c) [
          | inl is ↦ inl (subst (λ (w : X). Kept w x) is (e.refl x, itself x))
          | inr i ↦ inr i
        ]))
      ])

  -- for each item of a list in order the one that is kept of those that count as the same is no greater
  pub low-dedup : (xs : List X) (x : X) → AllPairs Low xs → Contains xs x → Any (λ y. (E x y ≡ true) × Low y x) (dedup E xs)
  low-dedup [] x up c = in-nothing x c
  low-dedup (y ∷ ys) x up c = low-from ys y x up (elim (first_or_rest y ys x c) [
    | inl is ↦ inl (subst (λ (w : X). Kept w y) is (e.refl y, itself y))
    | inr i ↦ inr i
  ])

module _ {X : Type 0} {R : X → X → Ordering} (o : IsTotalOrder R) where
  less-not-tied : (a : Ordering) → a ≡ Ordering.Less → a ≡ Ordering.Equal → ⊥
  less-not-tied a l e = false≢true (sym (ap is_lt e) ∙ ap is_lt l)

  -- of two items of a list that strictly ascends that are tied the one is the other
  pub one-of : (xs : List X) → IsStrictlySortedBy R xs → (x y : X) → Contains xs x → Contains xs y → R x y ≡ Ordering.Equal → x ≡ y
  one-of [] h x y i j tied = in-nothing x i
  one-of (k ∷ ks) h x y i j tied = elim (first_or_rest k ks x i) [
    | inl p ↦ elim (first_or_rest k ks y j) [
      | inl q ↦ sym p ∙ q
      | inr q ↦ absurd (less-not-tied (R k y) (All-contains (λ z. R k z ≡ Ordering.Less) ks y (All-after_first R k ks h) q) (ap (λ z. R z y) p ∙ tied))
    ]
    | inr p ↦ elim (first_or_rest k ks y j) [
      | inl q ↦ absurd (less-not-tied (R k x) (All-contains (λ z. R k z ≡ Ordering.Less) ks x (All-after_first R k ks h) p)
          (o.antisymm k x ∙ ap ordering_reverse (ap (R x) q ∙ tied)))
      | inr q ↦ one-of ks (sorted_tail R k ks h) x y p q tied
    ]
  ]
