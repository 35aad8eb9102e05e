-- The law of going through bundles.
use Rattle.std.specs.Prelude.{◌≡◌, ℕ, ◌<◌, Bool, true, List, [], length, ◌⊎◌}
use Rattle.std.specs.List.{Contains}
use Rattle.graphql_schema.specs.declared.meta.MetaType.{MetaType}
use Rattle.graphql_merging.specs.Contract.{IsSound, IsDirect, IsComplete}
use Rattle.graphql_merging.specs.Done.{all_sets}
use Rattle.graphql_merging.specs.Sets.{Set, members_of}
use Rattle.graphql_merging.specs.Pieces.{Pieces, IsPieceOf, HasOwnPieces}
use Rattle.graphql_rule_errors.specs.Places.{Places}
use Rattle.graphql_bundles.specs.Ends.{IsEnd, IsShown}
use Rattle.graphql_bundles.specs.Going.{Stage, IsGoing}

module _ (S C : Type 0) (eq : S → S → Bool) where
  -- bundles are gone through as far as the bound allows: where it was not met, and where something
  -- is told, the errors are as the rule promises
  abbrev pub GoingMeetsContract : Type 0
  GoingMeetsContract =
      (types : List (MetaType S C)) (t : Pieces S C) (roots : List (Set S C)) (definitions : ℕ)
      (stage : Stage) → HasOwnPieces t eq types
      → ((k : ℕ) → k < definitions
      → (set : Set S C) × Contains roots set × IsPieceOf t k (members_of types set))
      → ((set : Set S C) → Contains roots set
      → (k : ℕ) × (k < definitions) × IsPieceOf t k (members_of types set))
      → IsGoing t eq types definitions (length stage.bundles) stage
      → (stage.is_within ≡ true) ⊎ (stage.told ≡ [] → ⊥)
      → IsDirect eq types (all_sets types roots) stage.told
      → IsSound eq types (all_sets types roots) stage.told
      × IsDirect eq types (all_sets types roots) stage.told
      × IsComplete eq types (all_sets types roots) stage.told

  -- where going through bundles ends within the bound, or something is told, the errors are as the
  -- rule promises; the direct fields of each set, if it has any, are those of one that is come to
  abbrev pub EndMeetsContract : Type 0
  EndMeetsContract =
      (types : List (MetaType S C)) (t : Pieces S C) (roots : List (Set S C)) (definitions : ℕ)
      (within : Bool) (errors : Places) → HasOwnPieces t eq types
      → ((k : ℕ) → k < definitions
      → (set : Set S C) × Contains roots set × IsPieceOf t k (members_of types set))
      → ((set : Set S C) → Contains roots set
      → (k : ℕ) × (k < definitions) × IsPieceOf t k (members_of types set))
      → ((set : Set S C) → Contains (all_sets types roots) set → IsShown t types definitions set)
      → IsEnd t eq types definitions within errors
      → (within ≡ true) ⊎ (errors ≡ [] → ⊥)
      → IsSound eq types (all_sets types roots) errors
      × IsDirect eq types (all_sets types roots) errors
      × IsComplete eq types (all_sets types roots) errors
