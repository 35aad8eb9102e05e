-- How many pairs of sets are not given out yet.
use Rattle.std.proofs.Common.{◌≡◌, refl, ap, sym, subst, ◌∙◌, arith, ℕ, zero, suc, ◌+◌, ◌<◌, ◌≤◌, Bool, true, false, not, List, [], ◌∷◌, length, cond, inl, inr}
use Rattle.std.specs.List.{Contains}
use Rattle.std.proofs.lemmas.Bool.{false≢true, cases_lt}
use Rattle.std.proofs.lemmas.Bool.Decides.{eqb_tells}
use Rattle.std.proofs.lemmas.Option.{slice_get_past}
use Rattle.graphql_tree.specs.declared.document.Fragment.{Fragment}
use Rattle.graphql_merging.specs.declared.table.SetTable.{SetTable}
use Rattle.graphql_merging.specs.Tables.{pieces_of}
use Rattle.graphql_merging.proofs.Nested.{in-nothing}
use Rattle.graphql_rules_merging.specs.declared.agenda.SetPair.{SetPair}
use Rattle.graphql_rules_merging.specs.Agenda.{Listed, Takes, IsEmptyPiece, IsFull}
use Rattle.graphql_rules_merging.specs.Comparing.{between}
use Rattle.graphql_rules_merging.proofs.Lists.{here, there, first_or_rest, between_has}
use Rattle.graphql_rules_merging.proofs.Numbered.{empty_at}

one-more : (a b : Bool) (m n : ℕ) → (b ≡ true → a ≡ true) → m ≤ n → cond b 1 0 + m ≤ cond a 1 0 + n
one-more true true m n h most = omega (arith, most)
one-more true false m n h most = omega (arith, most)
one-more false true m n h most = absurd (false≢true (h refl))
one-more false false m n h most = omega (arith, most)

module _ {A : Type 0} where
  -- how many items pass a test
  abbrev pub count : (A → Bool) → List A → ℕ
  count p [] = 0
  count p (x ∷ xs) = cond (p x) 1 0 + count p xs

  module _ (p q : A → Bool) (only : (x : A) → q x ≡ true → p x ≡ true) where
    pub fewer : (xs : List A) → count q xs ≤ count p xs
    fewer [] = omega arith
    fewer (x ∷ xs) = one-more (p x) (q x) (count q xs) (count p xs) (only x) (fewer xs)

    pub less : (xs : List A) (x : A) → Contains xs x → p x ≡ true → q x ≡ false → count q xs < count p xs
    less [] x i passed failed = in-nothing x i
    less (y ∷ ys) x i passed failed = elim (first_or_rest y ys x i) [
      | inl e ↦ here-less (p y) (q y) (ap p e ∙ passed) (ap q e ∙ failed)
      | inr j ↦ rest-less (p y) (q y) (only y) (less ys x j passed failed)
    ]
      where
        here-less : (a b : Bool) → a ≡ true → b ≡ false → cond b 1 0 + count q ys < cond a 1 0 + count p ys
        here-less true false e f = let few = fewer ys in omega (arith, few)
        here-less true true e f = absurd (false≢true (sym f))
        here-less false b e f = absurd (false≢true e)

        rest-less : (a b : Bool) → (b ≡ true → a ≡ true) → count q ys < count p ys → cond b 1 0 + count q ys < cond a 1 0 + count p ys
        rest-less true true h few = omega (arith, few)
        rest-less true false h few = omega (arith, few)
        rest-less false true h few = absurd (false≢true (h refl))
        rest-less false false h few = omega (arith, few)

-- the numbers below one
abbrev pub below : ℕ → List ℕ
below zero = []
below (suc n) = n ∷ below n

pub below_has : (n k : ℕ) → k < n → Contains (below n) k
below_has zero k h = absurd (none k h)
  where
    none : (k : ℕ) → k < 0 → ⊥
    none k h = omega (arith, h)
below_has (suc n) k h = elim (eqb_tells k n) [
  | inl e ↦ subst (λ m. Contains (n ∷ below n) m) (sym e.1) (here n (below n))
  | inr e ↦ there n (below n) k (below_has n k (smaller k n h e.1))
]
  where
    smaller : (k n : ℕ) → k < suc n → (k ≡ n → ⊥) → k < n
    smaller k n h e = omega (arith, h, e)

module _ (listed : Listed) where
  -- a pair of this flag is not given out yet
  abbrev pub is_ahead : Bool → ℕ × ℕ → Bool
  is_ahead x p = not (listed.given (record { left = p.0; right = p.1; around = x }))

  -- how many pairs of so many sets are not given out yet
  abbrev pub ahead : ℕ → ℕ
  ahead n = count (is_ahead true) (between (below n) (below n)) + count (is_ahead false) (between (below n) (below n))

not-only : (a b : Bool) → (a ≡ true → b ≡ true) → not b ≡ true → not a ≡ true
not-only true b h e = absurd (false≢true (ap not (sym (h refl)) ∙ e))
not-only false b h e = refl

-- a pair that is given out is ahead no longer
pub ahead_less : (n : ℕ) (pair : SetPair) (old between-them new : Listed) → pair.left < n → pair.right < n → Takes pair old between-them
    → ((k : SetPair) → new.given k ≡ between-them.given k) → ahead new n < ahead old n
ahead_less n pair old mid new left right taken same = cases pair.around refl
  where
    all : List (ℕ × ℕ)
    all = between (below n) (below n)

    it : ℕ × ℕ
    it = (pair.left, pair.right)

    stands : Contains all it
    stands = between_has (below n) (below n) pair.left pair.right (below_has n pair.left left) (below_has n pair.right right)

    kept : (x : Bool) (p : ℕ × ℕ) → is_ahead new x p ≡ true → is_ahead old x p ≡ true
    kept x p = let k : SetPair = record { left = p.0; right = p.1; around = x } in
        not-only (old.given k) (new.given k) (λ g. same k ∙ taken.kept k g)

    strictly : (x : Bool) → pair.around ≡ x → count (is_ahead new x) all < count (is_ahead old x) all
    strictly x e =
        let is : record { left = pair.left; right = pair.right; around = x } ≡ pair = (λ i. record { left = pair.left; right = pair.right; around = sym e i }) in
        less (is_ahead old x) (is_ahead new x) (kept x) all it stands (ap (λ k. not (old.given k)) is ∙ ap not taken.fresh)
        (ap (λ k. not (new.given k)) is ∙ ap not (same pair ∙ taken.out))

    no-more : (x : Bool) → count (is_ahead new x) all ≤ count (is_ahead old x) all
    no-more x = fewer (is_ahead old x) (is_ahead new x) (kept x) all

    cases : (x : Bool) → pair.around ≡ x → ahead new n < ahead old n
    cases true e = let a = strictly true e in let b = no-more false in omega (arith, a, b)
    cases false e = let a = strictly false e in let b = no-more true in omega (arith, a, b)

-- a set in which something stands is one of the table's
pub full_below : {S C : Type 0} (fragments : List (Fragment S)) (table : SetTable S C) (pair : SetPair) → IsFull (pieces_of fragments table) pair
    → (pair.left < length table.sets) × (pair.right < length table.sets)
full_below {C = C} fragments table pair full = (within pair.left full.0, within pair.right full.1)
  where
    within : (k : ℕ) → (IsEmptyPiece (pieces_of {C = C} fragments table) k → ⊥) → k < length table.sets
    within k some = elim (cases_lt k (length table.sets)) [ inl h ↦ h | inr h ↦ absurd (some (empty_at {C = C} fragments table k (sym (slice_get_past table.sets k h)))) ]
