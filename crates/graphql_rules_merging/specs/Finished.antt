-- Where all pairs of selection sets are compared, or bundles of them decide (GraphQL October 2021,
-- 5.3.2 Field Selection Merging).
use Rattle.std.specs.Prelude.{◌≡◌, ℕ, ◌<◌, Bool, true, false, ◌||◌, List, [], map, ◌⊎◌}
use Rattle.std.specs.List.{All, Contains}
use Rattle.graphql_text.specs.declared.position.SourcePosition.{SourcePosition}
use Rattle.graphql_schema.specs.declared.meta.MetaType.{MetaType}
use Rattle.graphql_rule_errors.specs.Places.{Places}
use Rattle.graphql_merging.specs.Merging.{apart}
use Rattle.graphql_merging.specs.Pieces.{Pieces, PieceField}
use Rattle.graphql_merging.specs.Told.{Names, Tells, AgreeIfOneKey}
use Rattle.graphql_bundles.specs.Ends.{IsEnd}
use Rattle.graphql_rules_merging.specs.declared.agenda.SetPair.{SetPair}
use Rattle.graphql_rules_merging.specs.Alone.{AllStandAlone}
use Rattle.graphql_rules_merging.specs.Agenda.{pair_of, IsListed, IsBegun}
use Rattle.graphql_rules_merging.specs.Comparing.{Stage, members_in, HasOneKey, field_pairs}
use Rattle.graphql_rules_merging.specs.Comparing.{LeadsTo}
use Rattle.graphql_rules_merging.specs.Comparing.{DoAgree}

module _ {S C : Type 0} (t : Pieces S C) (definitions : ℕ) where
  -- two sets are reached from a definition's set with itself
  pub data IsReached : ℕ → ℕ → Bool → Type 0 where
    of_definition : (k : ℕ) → k < definitions → IsReached k k false
    other_way : (p q : ℕ) (x : Bool) → IsReached p q x → IsReached q p x
    by_fragment : (p q r : ℕ) (x : Bool) → IsReached p q x → Contains (t.inner p) r
        → IsReached r q x
    by_fields : (p q : ℕ) (f g : PieceField S C) (x : Bool) → IsReached p q x
        → Contains (t.direct p) f → Contains (t.direct q) g → HasOneKey (f, g)
        → IsReached f.own g.own (x || apart f.member g.member)

module _ {S C : Type 0} (eq : S → S → Bool) (types : List (MetaType S C)) (t : Pieces S C) where
  -- the pairs to which two sets lead are begun, and the errors of their fields are among the errors
  pub record IsCompared (stage : Stage) (pair : SetPair) : Type 0 where
    pub begun : (other : SetPair) → LeadsTo t (DoAgree eq types pair.around) pair other
        → IsBegun t stage.listed other
    pub told : (es : Places)
        × Tells (AgreeIfOneKey eq types pair.around) (map members_in (field_pairs t pair)) es
        × ((e : List SourcePosition) → Contains es e → Contains stage.told e)

  module _ (definitions : ℕ) where
    -- an error of two fields of one response key that stand directly in sets that are reached, and
    -- do not agree
    abbrev pub IsFound : List SourcePosition → Type 0
    IsFound e =
        (p : ℕ)
        × (q : ℕ)
        × (x : Bool)
        × (f : PieceField S C)
        × (g : PieceField S C)
        × IsReached t definitions p q x
        × Contains (t.direct p) f
        × Contains (t.direct q) g
        × HasOneKey (f, g)
        × (DoAgree eq types x (f, g) → ⊥)
        × Names e f.member g.member

    -- the set of each definition is begun with itself, and each pair that is listed is compared
    pub record IsFinished (stage : Stage) : Type 0 where
      pub begun : (k : ℕ) → k < definitions → IsBegun t stage.listed (pair_of k k false)
      pub reached : (pair : SetPair) → IsListed stage.listed pair
          → IsReached t definitions pair.left pair.right pair.around
      pub compared : (pair : SetPair) → IsListed stage.listed pair → IsCompared stage pair
      pub found : All IsFound stage.told

    -- bundles decide: all are gone through, or something is told
    abbrev pub AreOfBundles : Places → Type 0
    AreOfBundles errors = (within : Bool)
        × IsEnd t eq types definitions within errors
        × ((within ≡ true) ⊎ (errors ≡ [] → ⊥))

    -- all pairs are compared
    abbrev pub AreOfPairs : Places → Type 0
    AreOfPairs errors = (stage : Stage) × (stage.told ≡ errors) × IsFinished stage

    -- no two fields of one response key stand together, so that nothing is told
    abbrev pub AreOfNone : Places → Type 0
    AreOfNone errors = AllStandAlone t × (errors ≡ [])

    -- what is told where the rule ends: bundles decide it, or pairs, or there is nothing to decide
    abbrev pub AreFound : Places → Type 0
    AreFound errors = AreOfBundles errors ⊎ (AreOfPairs errors ⊎ AreOfNone errors)
