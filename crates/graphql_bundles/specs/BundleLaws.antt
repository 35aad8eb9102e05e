-- What the law of bundles rests on.
use Rattle.std.specs.Prelude.{◌≡◌, ℕ, ◌<◌, Bool, false, List, ◌⊎◌}
use Rattle.std.specs.List.{All, Any, Contains}
use Rattle.graphql_text.specs.declared.position.SourcePosition.{SourcePosition}
use Rattle.graphql_schema.specs.declared.meta.MetaType.{MetaType}
use Rattle.graphql_rule_errors.specs.Places.{Places}
use Rattle.graphql_merging.specs.Members.{Member}
use Rattle.graphql_merging.specs.Merging.{SameField}
use Rattle.graphql_merging.specs.Sets.{Set, members_of, directs_of}
use Rattle.graphql_merging.specs.Pieces.{Pieces, IsPieceOf, HasOwnPieces}
use Rattle.graphql_merging.specs.Told.{Names, later_pairs}
use Rattle.graphql_merging.specs.Contract.{IsSound, IsDirect, IsComplete}
use Rattle.graphql_merging.specs.Done.{IsTold, all_sets}
use Rattle.graphql_bundles.specs.Bundles.{Bundle, IsGathered}
use Rattle.graphql_bundles.specs.Bundles.{IsPassed, IsFoundAmong}

module _ (S C : Type 0) (eq : S → S → Bool) where
  -- two fields that have the name and arguments of a third are one field
  abbrev pub SameFieldByAThird : Type 0
  SameFieldByAThird =
      (types : List (MetaType S C)) (a b h : Member S C) → SameField eq types a h
      → SameField eq types b h → SameField eq types a b

  -- what is found in bundles that are reached is told rightly
  abbrev pub FoundIsTold : Type 0
  FoundIsTold =
      (types : List (MetaType S C)) (t : Pieces S C) (definitions : ℕ) (roots : List (Set S C))
      → HasOwnPieces t eq types
      → ((k : ℕ) → k < definitions
      → (set : Set S C) × Contains roots set × IsPieceOf t k (members_of types set))
      → (e : List SourcePosition) → IsFoundAmong t definitions eq types e → IsTold eq types roots e

  -- where all bundles are gone through, the errors are as the rule promises
  abbrev pub BundlesMeetContract : Type 0
  BundlesMeetContract =
      (types : List (MetaType S C)) (roots : List (Set S C)) (t : Pieces S C)
      (bundles : List Bundle) (errors : Places) → HasOwnPieces t eq types
      → ((set : Set S C) → Contains roots set
      → (k : ℕ) × IsPieceOf t k (members_of types set)
      × IsGathered t bundles false (λ p. p ≡ k))
      → ((b : Bundle) → Contains bundles b → IsPassed t eq types bundles errors b)
      → All (IsTold eq types roots) errors → IsDirect eq types (all_sets types roots) errors
      → IsSound eq types (all_sets types roots) errors
      × IsDirect eq types (all_sets types roots) errors
      × IsComplete eq types (all_sets types roots) errors

  -- each two fields of one response key of which the one stands later are one field, or are named
  abbrev pub AreTold : (types : List (MetaType S C)) → List (Member S C) → Places → Type 0
  AreTold types ms errors =
      (a b : Member S C) → Contains (later_pairs ms) (a, b) → a.head.key ≡ b.head.key
      → SameField eq types a b ⊎ Any (λ e. Names e a b) errors

  -- so each two that differ are named
  abbrev pub ToldIsDirect : Type 0
  ToldIsDirect =
      (types : List (MetaType S C)) (sets : List (Set S C)) (errors : Places)
      → ((set : Set S C) → Contains sets set → AreTold types (directs_of types set) errors)
      → IsDirect eq types sets errors
