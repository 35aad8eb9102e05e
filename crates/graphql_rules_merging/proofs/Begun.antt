-- What is begun stays begun.
use Rattle.std.proofs.Common.{◌≡◌, refl, ap, sym, subst, ◌∙◌, ℕ, ◌+◌, ◌<◌, Bool, List, [], ◌∷◌, ◌++◌, take, length, get_or, ◌⊎◌, inl, inr}
use Rattle.std.proofs.lemmas.List.{take_more}
use Rattle.std.proofs.lemmas.List.Elements.{Contains-append_left, Contains-append_right, Contains-append_cases}
use Rattle.graphql_merging.specs.Pieces.{Pieces}
use Rattle.graphql_merging.proofs.Nested.{one-only, in-nothing}
use Rattle.graphql_rules_merging.specs.declared.agenda.SetPair.{SetPair}
use Rattle.graphql_rules_merging.specs.Agenda.{pair_of, Listed, IsListed, Lists, PairOf, IsEmptyPiece, IsBegun, IsFull, ListsPairs}
use Rattle.graphql_rules_merging.proofs.Pairs.{pair_holds, pair_keeps}
use Rattle.graphql_rules_merging.proofs.Lists.{here}

module _ {S C : Type 0} (t : Pieces S C) where
  pub begun_still : (old new : Listed) (pair : SetPair) → ((other : SetPair) → IsListed old other → IsListed new other) → IsBegun t old pair → IsBegun t new pair
  begun_still old new pair still (inl i) = inl (still pair i)
  begun_still old new pair still (inr e) = inr e

  pair_full : (p q : ℕ) (x : Bool) → (IsEmptyPiece t p → ⊥) → (IsEmptyPiece t q → ⊥) → IsFull t (pair_of p q x)
  pair_full p q x left right = pair_keeps (λ a b _. (IsEmptyPiece t a → ⊥) × (IsEmptyPiece t b → ⊥)) (λ a b _ h. (h.1, h.0)) p q x (left, right)

  -- a pair of which one is empty
  pub begins_empty : (old : Listed) (p q : ℕ) (x : Bool) → IsEmptyPiece t p ⊎ IsEmptyPiece t q → ListsPairs t (λ pair. pair ≡ pair_of p q x) (λ pair. pair ≡ pair_of p q x) old old
  begins_empty old p q x empty = record {
    still = (λ pair i. i);
    each = (λ pair e. subst (IsBegun t old) (sym e) (inr (pair_holds (IsEmptyPiece t) p q x empty)));
    waits = (λ pair i. inl i);
    given = (λ pair. refl);
  }

  pub begins_listed : (old new : Listed) (p q : ℕ) (x : Bool) → (IsEmptyPiece t p → ⊥) → (IsEmptyPiece t q → ⊥) → Lists (pair_of p q x) old new → ListsPairs t (λ pair. pair ≡ pair_of p q x) (λ pair. pair ≡ pair_of p q x) old new
  begins_listed old new p q x left right h = record {
    still = h.still;
    each = (λ pair e. subst (IsBegun t new) (sym e) (inl h.listed));
    waits = (λ pair i. elim (h.waits pair i) [ inl o ↦ inl o | inr e ↦ inr (e, subst (IsFull t) (sym e) (pair_full p q x left right)) ]);
    given = h.given;
  }

  pub begins_none : (M Y : SetPair → Type 0) (old : Listed) → ((k : SetPair) → M k → IsBegun t old k) → ListsPairs t M Y old old
  begins_none M Y old h = record { still = (λ pair i. i); each = h; waits = (λ pair i. inl i); given = (λ pair. refl) }

  pub begins_both : (M1 Y1 M2 Y2 M Y : SetPair → Type 0) (old mid new : Listed)
      → ((k : SetPair) → M k → M1 k ⊎ M2 k) → ((k : SetPair) → Y1 k → Y k) → ((k : SetPair) → Y2 k → Y k)
      → ListsPairs t M1 Y1 old mid → ListsPairs t M2 Y2 mid new → ListsPairs t M Y old new
  begins_both M1 Y1 M2 Y2 M Y old mid new must one two f g = record {
    still = (λ k i. g.still k (f.still k i));
    each = (λ k h. elim (must k h) [ inl a ↦ begun_still mid new k g.still (f.each k a) | inr b ↦ g.each k b ]);
    waits = (λ k h. elim (g.waits k h) [
      | inl i ↦ elim (f.waits k i) [ inl o ↦ inl o | inr y ↦ inr (one k y.0, y.1) ]
      | inr y ↦ inr (two k y.0, y.1)
    ]);
    given = (λ k. g.given k ∙ f.given k);
  }

  pub begins_as : (M1 Y1 M Y : SetPair → Type 0) (old new : Listed) → ((k : SetPair) → M k → M1 k) → ((k : SetPair) → Y1 k → Y k)
      → ListsPairs t M1 Y1 old new → ListsPairs t M Y old new
  begins_as M1 Y1 M Y old new must may f = record {
    still = f.still;
    each = (λ k h. f.each k (must k h));
    waits = (λ k h. elim (f.waits k h) [ inl o ↦ inl o | inr y ↦ inr (may k y.0, y.1) ]);
    given = f.given;
  }

  module _ {A : Type 0} (step : A → SetPair) (P Q : A → Type 0) where
    pub begins_of_none : (old : Listed) → ListsPairs t (PairOf step P []) (PairOf step Q []) old old
    begins_of_none old = begins_none (PairOf step P []) (PairOf step Q []) old (λ k h. in-nothing h.0 h.1)

    pub begins_of_both : (xs ys : List A) (old mid new : Listed) → ListsPairs t (PairOf step P xs) (PairOf step Q xs) old mid
        → ListsPairs t (PairOf step P ys) (PairOf step Q ys) mid new → ListsPairs t (PairOf step P (xs ++ ys)) (PairOf step Q (xs ++ ys)) old new
    begins_of_both xs ys old mid new =
        begins_both (PairOf step P xs) (PairOf step Q xs) (PairOf step P ys) (PairOf step Q ys) (PairOf step P (xs ++ ys)) (PairOf step Q (xs ++ ys)) old mid new
        (λ k h. elim (Contains-append_cases xs ys h.0 h.1) [ inl i ↦ inl (h.0, i, h.2, h.3) | inr i ↦ inr (h.0, i, h.2, h.3) ])
        (λ k h. (h.0, Contains-append_left xs ys h.0 h.1, h.2, h.3)) (λ k h. (h.0, Contains-append_right xs ys h.0 h.1, h.2, h.3))

    pub begins_of_one : (x : A) (old new : Listed) → Q x → ListsPairs t (λ k. k ≡ step x) (λ k. k ≡ step x) old new
        → ListsPairs t (PairOf step P (x ∷ [])) (PairOf step Q (x ∷ [])) old new
    begins_of_one x old new q =
        begins_as (λ k. k ≡ step x) (λ k. k ≡ step x) (PairOf step P (x ∷ [])) (PairOf step Q (x ∷ [])) old new
        (λ k h. h.3 ∙ ap step (sym (one-only x h.0 h.1))) (λ k e. (x, here x [], q, e))

    pub begins_of_more : (xs : List A) (i : ℕ) (x : A) (old mid new : Listed) → i < length xs → x ≡ get_or xs i x → Q x
        → ListsPairs t (PairOf step P (take i xs)) (PairOf step Q (take i xs)) old mid → ListsPairs t (λ k. k ≡ step x) (λ k. k ≡ step x) mid new
        → ListsPairs t (PairOf step P (take (i + 1) xs)) (PairOf step Q (take (i + 1) xs)) old new
    begins_of_more xs i x old mid new within is q f g =
        let grown : take i xs ++ x ∷ [] ≡ take (i + 1) xs = sym (take_more xs i x within ∙ ap (λ z. take i xs ++ z ∷ []) (sym is)) in
        subst (λ ys. ListsPairs t (PairOf step P ys) (PairOf step Q ys) old new) grown (begins_of_both (take i xs) (x ∷ []) old mid new f (begins_of_one x mid new q g))
