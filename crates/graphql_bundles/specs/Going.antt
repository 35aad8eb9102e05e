-- How far going through bundles is.
use Rattle.std.specs.Prelude.{◌≡◌, ℕ, ◌<◌, Bool, true, false, List, ◌++◌, map, take}
use Rattle.std.specs.List.{Contains}
use Rattle.graphql_text.specs.declared.position.SourcePosition.{SourcePosition}
use Rattle.graphql_schema.specs.declared.meta.MetaType.{MetaType}
use Rattle.graphql_rule_errors.specs.Places.{Places}
use Rattle.graphql_bundles.specs.Conflicts.{places}
use Rattle.graphql_merging.specs.Merging.{Agree}
use Rattle.graphql_merging.specs.Pieces.{Pieces, PieceField, StandsIn}
use Rattle.graphql_merging.specs.Told.{Names}
use Rattle.graphql_bundles.specs.Bundles.{Bundle, GroupPart, BundleGroup, parts, OwnOf, StandsAmong}
use Rattle.graphql_bundles.specs.Bundles.{IsGathered, IsGroupOf, IsPassed, IsReachedBundle}
use Rattle.graphql_bundles.specs.Bundles.{IsFoundAmong}
use Rattle.graphql_bundles.specs.declared.bundle.Progress.{Progress}

-- what is told so far, which bundles are begun, and whether the bound was not met
pub record Stage : Type 0 where
  pub told : Places
  pub bundles : List Bundle
  pub is_within : Bool

-- how far a pass is
abbrev pub stage_of : Progress → Stage
stage_of progress = record {
  told = places progress.told;
  bundles = map (λ b. record { sets = b.sets.items; around = b.around }) progress.bundles.keys;
  is_within = progress.is_within;
}

-- errors that are such are told, and bundles that are such are begun
pub record Grows (Found : List SourcePosition → Type 0) (May : Bundle → Type 0)
    (old new : Stage) : Type 0 where
  pub errors : Places
  pub told : new.told ≡ old.told ++ errors
  pub found : (e : List SourcePosition) → Contains errors e → Found e
  pub more : List Bundle
  pub bundles : new.bundles ≡ old.bundles ++ more
  pub may : (b : Bundle) → Contains more b → May b
  pub within : new.is_within ≡ true → old.is_within ≡ true

module _ {S C : Type 0} (t : Pieces S C) where
  -- the fields of a bundle stand in the own sets of a part of a group
  abbrev pub HoldsPart : BundleGroup S C → GroupPart → Bundle → Type 0
  HoldsPart group part c =
      (c.around ≡ part.around)
      × ((f : PieceField S C) → StandsAmong t c.sets f
      → (p : ℕ) × OwnOf group part p × StandsIn t p f)

  -- a group leads to a bundle of one of its parts
  abbrev pub GroupLeadsTo : Bool → BundleGroup S C → Bundle → Type 0
  GroupLeadsTo x group c =
      (part : GroupPart) × Contains (parts x group.names) part × HoldsPart group part c

  -- a bundle leads to another
  abbrev pub LeadsTo : Bundle → Bundle → Type 0
  LeadsTo b c = (group : BundleGroup S C) × IsGroupOf t b group × GroupLeadsTo b.around group c

  module _ (eq : S → S → Bool) (types : List (MetaType S C)) where
    -- two fields of one response key in a bundle, which do not agree
    abbrev pub IsFoundIn : Bundle → List SourcePosition → Type 0
    IsFoundIn b e =
        (f : PieceField S C) × (g : PieceField S C) × StandsAmong t b.sets f
        × StandsAmong t b.sets g × (f.member.head.key ≡ g.member.head.key)
        × (Agree eq types b.around f.member g.member → ⊥) × Names e f.member g.member

    -- a bundle is gone through
    pub record Passes (b : Bundle) (old new : Stage) : Type 0 where
      pub grows : Grows (IsFoundIn b) (LeadsTo b) old new
      pub passed : IsPassed t eq types new.bundles new.told b

    -- the first bundles are gone through, where the bound was not met; what is told is right, and
    -- what is begun is reached, in any case
    pub record IsGoing (definitions number : ℕ) (stage : Stage) : Type 0 where
      pub reached : (b : Bundle) → Contains stage.bundles b → IsReachedBundle t definitions b
      pub right : (e : List SourcePosition) → Contains stage.told e
          → IsFoundAmong t definitions eq types e
      pub begun : stage.is_within ≡ true → (k : ℕ) → k < definitions
          → IsGathered t stage.bundles false (λ p. p ≡ k)
      pub passed : stage.is_within ≡ true → (b : Bundle) → Contains (take number stage.bundles) b
          → IsPassed t eq types stage.bundles stage.told b
