-- Going through bundles, step by step.
use Rattle.std.specs.Prelude.{◌≡◌, ℕ, ◌<◌, Bool, true, false, List, [], ◌∷◌, ◌++◌, Option}
use Rattle.std.specs.List.{Contains}
use Rattle.graphql_text.specs.declared.position.SourcePosition.{SourcePosition}
use Rattle.graphql_schema.specs.declared.meta.MetaType.{MetaType}
use Rattle.graphql_schema.specs.Types.{TypeOf}
use Rattle.graphql_tree.specs.declared.document.Fragment.{Fragment}
use Rattle.graphql_rule_errors.specs.Places.{Places}
use Rattle.graphql_merging.specs.Members.{Member}
use Rattle.graphql_merging.specs.Merging.{Agree, SameField}
use Rattle.graphql_merging.specs.Pieces.{Pieces, PieceField, StandsIn}
use Rattle.graphql_merging.specs.Told.{Names}
use Rattle.graphql_bundles.specs.Bundles.{Bundle, GroupPart, in_part, HasShape, StandsAmong}
use Rattle.graphql_bundles.specs.Bundles.{IsGroupPassed}
use Rattle.graphql_bundles.specs.Going.{Stage, Grows, GroupLeadsTo}
use Rattle.graphql_bundles.specs.Groups.{KeyGroup, group_of}

-- what grows; and where the bound was not met this is done
pub record Goes (Found : List SourcePosition → Type 0) (May : Bundle → Type 0)
    (Done : Stage → Type 0) (old new : Stage) : Type 0 where
  pub grows : Grows Found May old new
  pub done : new.is_within ≡ true → Done new

-- what was told stays told
abbrev pub KeepsTold : Stage → Stage → Type 0
KeepsTold old new = (errors : Places) × (new.told ≡ old.told ++ errors)

-- errors that are such are told; and if there are none this is done
pub record Compares (Found : List SourcePosition → Type 0) (Done : Type 0)
    (old new : Places) : Type 0 where
  pub errors : Places
  pub told : new ≡ old ++ errors
  pub found : (e : List SourcePosition) → Contains errors e → Found e
  pub done : errors ≡ [] → Done

-- the fields have one shape
abbrev pub AreShaped : {S C : Type 0} → List (MetaType S C) → List (PieceField S C) → Type 0
AreShaped {S} {C} types fields =
    (s : Option TypeOf) × ((f : PieceField S C) → Contains fields f → HasShape types s f.member)

module _ {S C : Type 0} (eq : S → S → Bool) (types : List (MetaType S C)) where
  -- two of these fields, which do not agree
  abbrev pub IsFoundOf : Bool → List (PieceField S C) → List SourcePosition → Type 0
  IsFoundOf x fields e =
      (f : PieceField S C) × (g : PieceField S C) × Contains fields f × Contains fields g
      × (Agree eq types x f.member g.member → ⊥) × Names e f.member g.member

  -- two fields of one of these groups
  abbrev pub FoundInGroups : List (Fragment S) → Bool → List (KeyGroup S C) → List SourcePosition
      → Type 0
  FoundInGroups fragments x groups e =
      (g : KeyGroup S C) × Contains groups g × IsFoundOf x (group_of fragments g.1).fields e

  -- the fields of a part have the name and arguments of one, if there is any field
  abbrev pub ArePartNamed : List (PieceField S C) → GroupPart → Type 0
  ArePartNamed fields part =
      (f : PieceField S C) → Contains fields f
      → (h : Member S C) × ((g : PieceField S C) → Contains fields g → in_part part g.member ≡ true
      → SameField eq types g.member h)

module _ {S C : Type 0} (t : Pieces S C) where
  -- one of these groups leads to a bundle
  abbrev pub GroupsLeadTo : List (Fragment S) → Bool → List (KeyGroup S C) → Bundle → Type 0
  GroupsLeadTo fragments x groups c =
      (g : KeyGroup S C) × Contains groups g × GroupLeadsTo t x (group_of fragments g.1) c

  -- the fields of a bundle stand in these sets
  abbrev pub HoldsSets : Bool → List ℕ → Bundle → Type 0
  HoldsSets x sets c =
      (c.around ≡ x)
      × ((f : PieceField S C) → StandsAmong t c.sets f → (p : ℕ) × Contains sets p × StandsIn t p f)

  -- the bundle of a definition's set
  abbrev pub OfDefinitions : ℕ → Bundle → Type 0
  OfDefinitions definitions c = (k : ℕ) × (k < definitions) × HoldsSets false (k ∷ []) c

  module _ (eq : S → S → Bool) (types : List (MetaType S C)) where
    -- these groups are gone through
    abbrev pub GroupsPassed : List (Fragment S) → Bool → List (KeyGroup S C) → Stage → Type 0
    GroupsPassed fragments x groups stage =
        (g : KeyGroup S C) → Contains groups g
        → IsGroupPassed t eq types stage.bundles stage.told x (group_of fragments g.1)
