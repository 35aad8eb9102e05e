-- Where the rule that fields merge ends: what it told and what it compared.
use Rattle.std.specs.Prelude.{◌≡◌, ℕ, Bool, false, List, []}
use Rattle.std.specs.List.{All, Contains, flat_map}
use Rattle.graphql_text.specs.declared.position.SourcePosition.{SourcePosition}
use Rattle.graphql_schema.specs.declared.meta.MetaType.{MetaType}
use Rattle.graphql_rule_errors.specs.Places.{Places}
use Rattle.graphql_merging.specs.Members.{Member}
use Rattle.graphql_merging.specs.Merging.{Agree, Together}
use Rattle.graphql_merging.specs.Sets.{Set, members_of, sets_of}
use Rattle.graphql_merging.specs.Told.{Names}
use Rattle.graphql_merging.specs.Contract.{IsDirect}
use Rattle.graphql_merging.specs.Pieces.{Pieces, IsPieceOf, HasOwnPieces, IsSettled}

-- the sets, and the sets in them
abbrev pub all_sets : {S C : Type 0} → List (MetaType S C) → List (Set S C) → List (Set S C)
all_sets types = flat_map (sets_of types)

module _ {S C : Type 0} (eq : S → S → Bool) (types : List (MetaType S C))
    (roots : List (Set S C)) where
  -- an error of two fields that stand together in one of the sets and do not agree
  abbrev pub IsTold : List SourcePosition → Type 0
  IsTold e =
      (set : Set S C) × Contains roots set × ((x : Bool) × (a : Member S C) × (b : Member S C)
      × Together eq types (members_of types set) x a b × (Agree eq types x a b → ⊥) × Names e a b)

  -- `Begun`: which pieces were compared with one another
  pub record IsDone (t : Pieces S C) (Begun : ℕ → ℕ → Bool → Type 0)
      (errors : Places) : Type 0 where
    pub owns : HasOwnPieces t eq types
    pub pieces : (set : Set S C) → Contains roots set
        → (p : ℕ)
        × IsPieceOf t p (members_of types set)
        × Begun p p false
    pub told : All IsTold errors
    pub directs : IsDirect eq types (all_sets types roots) errors
    pub settled : errors ≡ [] → IsSettled t eq types Begun
