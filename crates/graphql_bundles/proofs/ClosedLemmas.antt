-- Sets with those of the fragments in them.
use Rattle.std.proofs.Common.{◌≡◌, refl, ap, sym, subst, ◌∙◌, arith, ℕ, ◌+◌, ◌<◌, ◌≤◌, nat_eq, Bool, true, false, List, [], ◌∷◌, ◌++◌, take, length, get_or, append-nil, append_assoc, if◌then◌else◌, Some, None, slice_get, ◌⊎◌, ◌↔◌, IsPermutation, inl, inr}
use Rattle.std.specs.List.{Contains, list_any}
use Rattle.std.proofs.lemmas.Bool.Decides.{Decides-eqb}
use Rattle.std.proofs.lemmas.List.{take_more, take_all, take-append-le}
use Rattle.std.proofs.lemmas.List.Elements.{Contains-append_left, Contains-append_right, Contains-append_cases}
use Rattle.std.proofs.lemmas.List.Sorted.{Contains-permutation, IsPermutation-sym}
use Rattle.std.proofs.lemmas.Option.{get_or_from_slice_get, slice_get_within}
use Rattle.indexmap.specs.IndexSet.{insert_key}
use Rattle.indexmap.proofs.CallerLemmas.{Contains-insert_key}
use Rattle.graphql_merging.specs.Pieces.{Pieces, PieceField, StandsIn, directly, in_fragment}
use Rattle.graphql_bundles.specs.Bundles.{StandsAmong, CoversPiece}
use Rattle.graphql_merging.proofs.Nested.{one-only, in-nothing}
use Rattle.graphql_bundles.specs.Closed.{AddsNumbers, IsOpened, IsClosure, AreThose}
use Rattle.graphql_bundles.proofs.ListLemmas.{past-end}

pub adds-none : (old : List ℕ) → AddsNumbers old [] old
adds-none old = record { more = []; grown = sym (append-nil old); has = (λ n i. in-nothing n i); only = (λ n i. in-nothing n i) }

module _ (eq : ℕ → ℕ → Bool) (same : (x y : ℕ) → eq x y ≡ true → x ≡ y) where
  adds-key : (ks : List ℕ) (n : ℕ) → AddsNumbers ks (n ∷ []) (insert_key eq ks n)
  adds-key ks n = cases (list_any (eq n) ks) refl
    where
      has : (m : ℕ) → Contains (n ∷ []) m → Contains (insert_key eq ks n) m
      has m i = subst (Contains (insert_key eq ks n)) (one-only n m i) (Contains-insert_key eq same ks n)

      cases : (b : Bool) → list_any (eq n) ks ≡ b → AddsNumbers ks (n ∷ []) (insert_key eq ks n)
      cases true e = record {
        more = [];
        grown = ap (λ c. if c then ks else ks ++ n ∷ []) e ∙ sym (append-nil ks);
        has = has;
        only = (λ m i. in-nothing m i);
      }
      cases false e = record { more = n ∷ []; grown = ap (λ c. if c then ks else ks ++ n ∷ []) e; has = has; only = (λ m i. i) }

pub adds-both : (old xs mid ys new : List ℕ) → AddsNumbers old xs mid → AddsNumbers mid ys new → AddsNumbers old (xs ++ ys) new
adds-both old xs mid ys new f g = record {
  more = f.more ++ g.more;
  grown = g.grown ∙ ap (λ zs. zs ++ g.more) f.grown ∙ append_assoc old f.more g.more;
  has = (λ n i. elim (Contains-append_cases xs ys n i) [
    | inl j ↦ subst (λ zs. Contains zs n) (sym g.grown) (Contains-append_left mid g.more n (f.has n j))
    | inr j ↦ g.has n j
  ]);
  only = (λ n i. elim (Contains-append_cases f.more g.more n i) [
    | inl j ↦ Contains-append_left xs ys n (f.only n j)
    | inr j ↦ Contains-append_right xs ys n (g.only n j)
  ]);
}

pub adds-more : (xs : List ℕ) (i : ℕ) (x : ℕ) (old mid new : List ℕ) → i < length xs → x ≡ get_or xs i x
    → AddsNumbers old (take i xs) mid → new ≡ insert_key nat_eq mid x → AddsNumbers old (take (i + 1) xs) new
adds-more xs i x old mid new within is f e =
    let grown : take i xs ++ x ∷ [] ≡ take (i + 1) xs = sym (take_more xs i x within ∙ ap (λ z. take i xs ++ z ∷ []) (sym is)) in
    subst (λ zs. AddsNumbers old zs new) grown (adds-both old (take i xs) mid (x ∷ []) new f (subst (AddsNumbers mid (x ∷ [])) (sym e) (adds-key nat_eq equal mid x)))
  where
    equal : (x y : ℕ) → nat_eq x y ≡ true → x ≡ y
    equal x y e = (Decides-eqb x y).0 e

module _ {S C : Type 0} (t : Pieces S C) (sets : List ℕ) where
  pub opened-first : (all : List ℕ) → AddsNumbers [] sets all → IsOpened t sets [] all
  opened-first all h = record {
    has = h.has;
    inner = (λ p r i j. in-nothing p i);
    from = (λ p i. (p, h.only p (subst (λ xs. Contains xs p) h.grown i), λ f k. k));
  }

  pub opened-more : (index number : ℕ) (all new : List ℕ) → index < length all → number ≡ get_or all index number → IsOpened t sets (take index all) all
      → AddsNumbers all (t.inner number) new → IsOpened t sets (take (index + 1) new) new
  opened-more index number all new within is h adds = record {
    has = (λ p i. kept p (h.has p i));
    inner = (λ p r i j. elim (Contains-append_cases (take index all) (number ∷ []) p (subst (λ xs. Contains xs p) (sym first) i)) [
      | inl k ↦ kept r (h.inner p r k j)
      | inr k ↦ adds.has r (subst (λ q. Contains (t.inner q) r) (sym (one-only number p k)) j)
    ]);
    from = (λ p i. elim (Contains-append_cases all adds.more p (subst (λ xs. Contains xs p) adds.grown i)) [
      | inl k ↦ h.from p k
      | inr k ↦ (let s = h.from number here in (s.0, s.1, λ f j. s.2 f (in_fragment number p f (adds.only p k) j)))
    ]);
  }
    where
      kept : (p : ℕ) → Contains all p → Contains new p
      kept p i = subst (λ xs. Contains xs p) (sym adds.grown) (Contains-append_left all adds.more p i)

      here : Contains all number
      here = (index, within, sym is)

      prefix : take (index + 1) (all ++ adds.more) ≡ take (index + 1) all
      prefix = take-append-le (index + 1) all adds.more (omega (arith, within))

      first : take index all ++ number ∷ [] ≡ take (index + 1) new
      first = sym (ap (take (index + 1)) adds.grown ∙ prefix ∙ take_more all index number within ∙ ap (λ z. take index all ++ z ∷ []) (sym is))

  pub opened-none : (index number : ℕ) (all : List ℕ) → index < length all → number ≡ get_or all index number → IsOpened t sets (take index all) all → t.inner number ≡ []
      → IsOpened t sets (take (index + 1) all) all
  opened-none index number all within is h none =
      opened-more index number all all within is h (subst (λ xs. AddsNumbers all xs all) (sym none) (adds-none all))

  pub opened-all : (index : ℕ) (all : List ℕ) → length all ≤ index → IsOpened t sets (take index all) all → IsOpened t sets all all
  opened-all index all past h = subst (λ xs. IsOpened t sets xs all) (take_all index all past) h

  -- those in which fields stand
  module _ (all closed : List ℕ) (opened : IsOpened t sets all all) (those : AreThose (λ p. t.direct p ≡ [] → ⊥) all closed) where
    some : (p : ℕ) (f : PieceField S C) → Contains (t.direct p) f → t.direct p ≡ [] → ⊥
    some p f i e = in-nothing f (subst (λ fs. Contains fs f) e i)

    -- what stands in one of all stands directly in one of them
    pub closed-holds : (p : ℕ) → Contains all p → CoversPiece t closed p
    closed-holds p i f s = held-in p f i s
      where
        held-in : (p : ℕ) (f : PieceField S C) → Contains all p → StandsIn t p f → StandsAmong t closed f
        held-in _ _ i (directly p f j) = (p, (those p).1 (i, some p f j), j)
        held-in _ _ i (in_fragment p q f j s) = held-in q f (opened.inner p q i j) s

    pub closed-from : IsClosure t sets closed
    closed-from = record {
      holds = (λ p i. closed-holds p (opened.has p i));
      only = (λ f s. let p = (those s.0).0 s.1 in let c = opened.from s.0 p.0 in (c.0, c.1, c.2 f (directly s.0 f s.2)));
    }

  -- the same by what a look-up answers
  pub opened-at : (index number : ℕ) (all new numbers : List ℕ) → slice_get all index ≡ Some number → IsOpened t sets (take index all) all
      → t.inner number ≡ numbers → AddsNumbers all numbers new → IsOpened t sets (take (index + 1) new) new
  opened-at index number all new numbers at h is adds =
      opened-more index number all new (slice_get_within all index number at) (sym (get_or_from_slice_get all index number number at)) h
      (subst (λ ns. AddsNumbers all ns new) (sym is) adds)

  pub opened-end : (index : ℕ) (all : List ℕ) → slice_get all index ≡ None → IsOpened t sets (take index all) all → IsOpened t sets all all
  opened-end index all at h = opened-all index all (past-end all index at) h

-- a set in which no fragment stands
pub closed-alone : {S C : Type 0} (t : Pieces S C) (number : ℕ) (closed : List ℕ) → t.inner number ≡ []
    → AreThose (λ p. t.direct p ≡ [] → ⊥) (number ∷ []) closed → IsClosure t (number ∷ []) closed
closed-alone t number closed none those =
    closed-from t (number ∷ []) (number ∷ []) closed
    (record {
      has = (λ p i. i);
      inner = (λ p r i j. in-nothing r (subst (λ ns. Contains ns r) none (subst (λ q. Contains (t.inner q) r) (sym (one-only number p i)) j)));
      from = (λ p i. (p, i, λ f k. k));
    })
    those

-- those that are such, one more looked at
module _ (P : ℕ → Type 0) where
  pub those-none : AreThose P [] []
  those-none n = ((λ i. in-nothing n i), (λ h. in-nothing n h.0))

  pub those-more : (xs : List ℕ) (i x : ℕ) (old new : List ℕ) → i < length xs → x ≡ get_or xs i x → AreThose P (take i xs) old
      → ((n : ℕ) → Contains new n ↔ (Contains old n ⊎ ((n ≡ x) × P n))) → AreThose P (take (i + 1) xs) new
  those-more xs i x old new within is h step n = (
    (λ j. elim ((step n).0 j) [
      | inl k ↦ (let r = (h n).0 k in (both n (inl r.0), r.1))
      | inr k ↦ (both n (inr k.0), k.1)
    ]),
    (λ r. (step n).1 (elim (Contains-append_cases (take i xs) (x ∷ []) n (subst (λ ys. Contains ys n) (sym grown) r.0)) [
      | inl k ↦ inl ((h n).1 (k, r.1))
      | inr k ↦ inr (sym (one-only x n k), r.1)
    ])),
  )
    where
      grown : take i xs ++ x ∷ [] ≡ take (i + 1) xs
      grown = sym (take_more xs i x within ∙ ap (λ z. take i xs ++ z ∷ []) (sym is))

      both : (n : ℕ) → Contains (take i xs) n ⊎ (n ≡ x) → Contains (take (i + 1) xs) n
      both n (inl k) = subst (λ ys. Contains ys n) grown (Contains-append_left (take i xs) (x ∷ []) n k)
      both n (inr e) = subst (λ ys. Contains ys n) grown (Contains-append_right (take i xs) (x ∷ []) n (subst (Contains (x ∷ [])) (sym e) (0, omega arith, refl)))

  pub step-kept : (old : List ℕ) (x : ℕ) → P x → (n : ℕ) → Contains (old ++ x ∷ []) n ↔ (Contains old n ⊎ ((n ≡ x) × P n))
  step-kept old x p n = (
    (λ j. elim (Contains-append_cases old (x ∷ []) n j) [ inl k ↦ inl k | inr k ↦ inr (sym (one-only x n k), subst P (one-only x n k) p) ]),
    (λ h. elim h [
      | inl k ↦ Contains-append_left old (x ∷ []) n k
      | inr k ↦ Contains-append_right old (x ∷ []) n (subst (Contains (x ∷ [])) (sym k.0) (0, omega arith, refl))
    ]),
  )

  pub step-dropped : (old : List ℕ) (x : ℕ) → (P x → ⊥) → (n : ℕ) → Contains old n ↔ (Contains old n ⊎ ((n ≡ x) × P n))
  step-dropped old x p n = ((λ j. inl j), (λ h. elim h [ inl k ↦ k | inr k ↦ absurd (p (subst P k.0 k.1)) ]))

  pub those-sorted : (xs old new : List ℕ) → IsPermutation old new → AreThose P xs old → AreThose P xs new
  those-sorted xs old new moved h n = (
    (λ i. (h n).0 (Contains-permutation new old n (IsPermutation-sym old new moved) i)),
    (λ r. Contains-permutation old new n moved ((h n).1 r)),
  )
