-- Sets that bundles hold already.
use Rattle.std.specs.Prelude.{◌≡◌, ℕ, ◌<◌, false, List, ◌⊎◌}
use Rattle.std.specs.List.{Contains}
use Rattle.graphql_merging.specs.Pieces.{Pieces}
use Rattle.graphql_bundles.specs.Bundles.{IsGathered}
use Rattle.graphql_bundles.specs.Going.{Stage}

module _ {S C : Type 0} (t : Pieces S C) where
  -- a bundle without the flag holds the set, or nothing stands in it
  abbrev pub IsHeld : Stage → ℕ → Type 0
  IsHeld stage k = IsGathered t stage.bundles false (λ p. p ≡ k)

  -- more sets are among those that are held: that of the definition, and others that are
  pub record HoldsMore (definition : ℕ) (old new : List ℕ) (stage : Stage) : Type 0 where
    pub own : Contains new definition
    pub kept : (k : ℕ) → Contains old k → Contains new k
    pub held : (k : ℕ) → Contains new k → Contains old k ⊎ IsHeld stage k

  -- each of the first sets is among those that are spread, or among those that are held
  pub record HoldsEach (definitions : ℕ) (spread old new : List ℕ) (stage : Stage) : Type 0 where
    pub each : (k : ℕ) → k < definitions → Contains spread k ⊎ Contains new k
    pub held : (k : ℕ) → Contains new k → Contains old k ⊎ IsHeld stage k
