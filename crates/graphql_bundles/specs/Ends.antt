-- How going through bundles ends.
use Rattle.std.specs.Prelude.{◌≡◌, ℕ, Bool, true, List, [], ◌++◌, length, map, ◌⊎◌}
use Rattle.std.specs.List.{Contains}
use Rattle.graphql_text.specs.declared.position.SourcePosition.{SourcePosition}
use Rattle.graphql_schema.specs.declared.meta.MetaType.{MetaType}
use Rattle.graphql_rule_errors.specs.Places.{Places}
use Rattle.graphql_bundles.specs.Conflicts.{places}
use Rattle.graphql_merging.specs.Pieces.{Pieces}
use Rattle.graphql_merging.specs.Sets.{Set, directs_of}
use Rattle.graphql_bundles.specs.Direct.{IsVisited, IsDirectFound, AreDirectTold}
use Rattle.graphql_bundles.specs.Going.{Stage, IsGoing}
use Rattle.graphql_bundles.specs.declared.outcome.Outcome.{Outcome}
use Rattle.graphql_bundles.specs.declared.outcome.Outcome.TheVariants as outcome

module _ {S C : Type 0} (t : Pieces S C) (eq : S → S → Bool) (types : List (MetaType S C))
    (definitions : ℕ) where
  -- of the fields that stand directly in a set that is come to each two are alike, or are named
  abbrev pub AreVisitedTold : Places → Type 0
  AreVisitedTold errors =
      (p : ℕ) → IsVisited t definitions p
      → AreDirectTold eq types (map (λ f. f.member) (t.direct p)) errors

  -- errors of such fields are told, and they are all told
  pub record TellsVisited (old new : Places) : Type 0 where
    pub errors : Places
    pub told : new ≡ old ++ errors
    pub found : (e : List SourcePosition) → Contains errors e
        → (p : ℕ) × IsVisited t definitions p
        × IsDirectFound eq types (map (λ f. f.member) (t.direct p)) e
    pub all : AreVisitedTold new

  -- the bundles are gone through up to a stage; where something is told, the fields that stand
  -- directly in each set are told
  pub record IsEnd (within : Bool) (errors : Places) : Type 0 where
    pub stage : Stage
    pub told : stage.told ≡ errors
    pub bound : stage.is_within ≡ within
    pub going : IsGoing t eq types definitions (length stage.bundles) stage
    pub directs : (errors ≡ [] → ⊥) → AreVisitedTold errors

  -- all bundles are gone through, or something is told; or nothing is decided
  abbrev pub AllGoneThrough : Outcome → Type 0
  AllGoneThrough (outcome.Told errors) =
      (within : Bool) × IsEnd within (places errors)
      × ((within ≡ true) ⊎ (places errors ≡ [] → ⊥))
  AllGoneThrough outcome.Undecided = Unit {0}

-- the fields that stand directly in a set, if there are any, are those of a set that is come to
abbrev pub IsShown : {S C : Type 0} → Pieces S C → List (MetaType S C) → ℕ → Set S C → Type 0
IsShown {S} {C} t types definitions set =
    ((p : ℕ) × IsVisited t definitions p
    × (map (λ f. f.member) (t.direct p) ≡ directs_of types set))
    ⊎ (directs_of types set ≡ [])
