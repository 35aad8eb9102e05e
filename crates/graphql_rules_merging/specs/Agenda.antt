-- Pairs of selection sets that wait to be compared, and those that are compared (GraphQL October
-- 2021, 5.3.2 Field Selection Merging).
use Rattle.std.specs.Prelude.{◌≡◌, ℕ, ltb, Bool, true, false, List, [], ◌⊎◌, if◌then◌else◌}
use Rattle.std.specs.List.{Contains}
use Rattle.graphql_merging.specs.Pieces.{Pieces}
use Rattle.graphql_rules_merging.specs.PairTables.{has_pair}
use Rattle.graphql_rules_merging.specs.declared.agenda.SetPair.{SetPair}
use Rattle.graphql_rules_merging.specs.declared.agenda.Agenda.{Agenda}

-- two sets, the smaller number first
abbrev pub pair_of : ℕ → ℕ → Bool → SetPair
pair_of p q around = if ltb q p then record { left = q; right = p; around = around }
    else record { left = p; right = q; around = around }

-- which pairs wait, and which were given out to be compared
pub record Listed : Type 0 where
  pub waits : SetPair → Bool
  pub given : SetPair → Bool

-- by tables for each flag, of those that wait and of those that were given out
abbrev pub listed_in : (Bool → List (List ℕ)) → (Bool → List (List ℕ)) → Listed
listed_in waiting given = record {
  waits = (λ pair. has_pair (waiting pair.around) pair.left pair.right);
  given = (λ pair. has_pair (given pair.around) pair.left pair.right);
}

-- which pairs of an agenda wait, and which were given out
abbrev pub listed_of : Agenda → Listed
listed_of agenda =
    listed_in (λ around. if around then agenda.apart.waiting else agenda.together.waiting)
    (λ around. if around then agenda.apart.given else agenda.together.given)

-- a pair waits or was given out
abbrev pub IsListed : Listed → SetPair → Type 0
IsListed listed pair = (listed.waits pair ≡ true) ⊎ (listed.given pair ≡ true)

-- a pair is listed beside others: it waits, unless it was listed
pub record Lists (pair : SetPair) (old new : Listed) : Type 0 where
  pub still : (other : SetPair) → IsListed old other → IsListed new other
  pub listed : IsListed new pair
  pub waits : (other : SetPair) → new.waits other ≡ true → (old.waits other ≡ true) ⊎ (other ≡ pair)
  pub given : (other : SetPair) → new.given other ≡ old.given other

-- a pair that waited is given out for the first time
pub record Takes (pair : SetPair) (old new : Listed) : Type 0 where
  pub waited : old.waits pair ≡ true
  pub fresh : old.given pair ≡ false
  pub out : new.given pair ≡ true
  pub still : (other : SetPair) → IsListed old other → IsListed new other
  pub waits : (other : SetPair) → new.waits other ≡ true → old.waits other ≡ true
  pub given : (other : SetPair) → new.given other ≡ true → (old.given other ≡ true) ⊎ (other ≡ pair)
  pub kept : (other : SetPair) → old.given other ≡ true → new.given other ≡ true

-- no pair waits, and each that was listed was given out
pub record NoneWaits (old new : Listed) : Type 0 where
  pub still : (other : SetPair) → IsListed old other → IsListed new other
  pub waits : (other : SetPair) → new.waits other ≡ false
  pub given : (other : SetPair) → new.given other ≡ true → old.given other ≡ true

-- the pair of one of these items that are such
abbrev pub PairOf : {A : Type 0} → (A → SetPair) → (A → Type 0) → List A → SetPair → Type 0
PairOf {A} step P xs pair = (x : A) × Contains xs x × P x × (pair ≡ step x)

module _ {S C : Type 0} (t : Pieces S C) where
  -- nothing stands in the set
  abbrev pub IsEmptyPiece : ℕ → Type 0
  IsEmptyPiece p = (t.direct p ≡ []) × (t.inner p ≡ [])

  -- a pair is listed, or there is nothing to compare in it
  abbrev pub IsBegun : Listed → SetPair → Type 0
  IsBegun listed pair = IsListed listed pair ⊎ (IsEmptyPiece pair.left ⊎ IsEmptyPiece pair.right)

  -- there may be something to compare in a pair
  abbrev pub IsFull : SetPair → Type 0
  IsFull pair = (IsEmptyPiece pair.left → ⊥) × (IsEmptyPiece pair.right → ⊥)

  -- pairs are listed beside others: each that must be is begun, and none waits but those that may
  pub record ListsPairs (Must May : SetPair → Type 0) (old new : Listed) : Type 0 where
    pub still : (pair : SetPair) → IsListed old pair → IsListed new pair
    pub each : (pair : SetPair) → Must pair → IsBegun new pair
    pub waits : (pair : SetPair) → new.waits pair ≡ true
        → (old.waits pair ≡ true)
        ⊎ (May pair × IsFull pair)
    pub given : (pair : SetPair) → new.given pair ≡ old.given pair
