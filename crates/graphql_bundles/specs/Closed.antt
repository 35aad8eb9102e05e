-- Sets with those of the fragments in them.
use Rattle.std.specs.Prelude.{◌≡◌, ◌↔◌, ℕ, List, ◌++◌}
use Rattle.std.specs.List.{Contains}
use Rattle.graphql_merging.specs.Pieces.{Pieces, PieceField, StandsIn}
use Rattle.graphql_bundles.specs.Bundles.{StandsAmong, CoversPiece}

-- numbers are added at the end, those that were not there
pub record AddsNumbers (old numbers new : List ℕ) : Type 0 where
  pub more : List ℕ
  pub grown : new ≡ old ++ more
  pub has : (n : ℕ) → Contains numbers n → Contains new n
  pub only : (n : ℕ) → Contains more n → Contains numbers n

module _ {S C : Type 0} (t : Pieces S C) (sets : List ℕ) where
  -- what stands in the one piece stands in one of the sets
  abbrev pub ComesFrom : ℕ → Type 0
  ComesFrom p = (s : ℕ) × Contains sets s × ((f : PieceField S C) → StandsIn t p f → StandsIn t s f)

  -- the fragments in the first of them are among them
  pub record IsOpened (first all : List ℕ) : Type 0 where
    pub has : (p : ℕ) → Contains sets p → Contains all p
    pub inner : (p r : ℕ) → Contains first p → Contains (t.inner p) r → Contains all r
    pub from : (p : ℕ) → Contains all p → ComesFrom p

  -- what stands in the sets stands directly in these, and nothing else
  pub record IsClosure (closed : List ℕ) : Type 0 where
    pub holds : (p : ℕ) → Contains sets p → CoversPiece t closed p
    pub only : (f : PieceField S C) → StandsAmong t closed f
        → (s : ℕ) × Contains sets s × StandsIn t s f

-- those of some numbers that are such
abbrev pub AreThose : (ℕ → Type 0) → List ℕ → List ℕ → Type 0
AreThose P all some = (n : ℕ) → Contains some n ↔ (Contains all n × P n)
