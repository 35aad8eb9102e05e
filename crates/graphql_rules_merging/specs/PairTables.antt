-- Tables of pairs of numbers: in the row of the second number the first.
use Rattle.std.specs.Prelude.{◌≡◌, ℕ, eqb, Bool, true, false, not, ◌&&◌, ◌||◌, List, [], get_or}
use Rattle.std.specs.Prelude.{◌⊎◌}
use Rattle.std.specs.List.{list_any}
use Rattle.graphql_rules_merging.specs.Numbers.{has_number}

-- the row of a number; beyond the last row there is nothing
abbrev pub words_at : List (List ℕ) → ℕ → List ℕ
words_at table k = get_or table k []

abbrev pub has_pair : List (List ℕ) → ℕ → ℕ → Bool
has_pair table left right = has_number (words_at table right) left

-- a table has the pairs of another
abbrev pub SamePairs : List (List ℕ) → List (List ℕ) → Type 0
SamePairs old new = (p q : ℕ) → has_pair new p q ≡ has_pair old p q

-- a table has one pair more
abbrev pub PutsPair : ℕ → ℕ → List (List ℕ) → List (List ℕ) → Type 0
PutsPair left right old new =
    (p q : ℕ) → has_pair new p q ≡ ((eqb q right && eqb p left) || has_pair old p q)

-- a table had a pair, and has all but it
pub record TakesPair (left right : ℕ) (old new : List (List ℕ)) : Type 0 where
  pub had : has_pair old left right ≡ true
  pub rest : (p q : ℕ) → has_pair new p q ≡ (not (eqb q right && eqb p left) && has_pair old p q)

-- no pair is in a table, and none was
abbrev pub HasNone : List (List ℕ) → List (List ℕ) → Type 0
HasNone old new = (p q : ℕ) → (has_pair old p q ≡ false) × (has_pair new p q ≡ false)

-- each row that is not empty is among these
abbrev pub AreListed : List (List ℕ) → List ℕ → Type 0
AreListed table rows = (k : ℕ) → (words_at table k ≡ [] → ⊥) → list_any (eqb k) rows ≡ true

-- no pair that waits was given out
abbrev pub AreOnce : List (List ℕ) → List (List ℕ) → Type 0
AreOnce given waiting = (p q : ℕ) → has_pair waiting p q ≡ true → has_pair given p q ≡ false

-- a pair waits or was given out, and no other waits that did not
pub record HasBegun (left right : ℕ) (given old new : List (List ℕ)) : Type 0 where
  pub begun : (has_pair new left right ≡ true) ⊎ (has_pair given left right ≡ true)
  pub still : (p q : ℕ) → has_pair old p q ≡ true → has_pair new p q ≡ true
  pub only : (p q : ℕ) → has_pair new p q ≡ true
      → (has_pair old p q ≡ true)
      ⊎ ((p ≡ left) × (q ≡ right))

-- a pair that waited is given out for the first time
pub record GivesPair (left right : ℕ) (given given' waiting waiting' : List (List ℕ)) : Type 0 where
  pub taken : TakesPair left right waiting waiting'
  pub put : PutsPair left right given given'
  pub fresh : has_pair given left right ≡ false
