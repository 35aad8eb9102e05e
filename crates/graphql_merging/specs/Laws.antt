-- Laws of merging, and what the executor takes from sets that merge (GraphQL October 2021, 5.3.2
-- Field Selection Merging, 6.3.2 Field Collection, 6.4.3 Merging Selection Sets).
use Rattle.std.specs.Prelude.{◌≡◌, ◌↔◌, ℕ, Bool, true, false, ◌||◌, List, [], ◌∷◌, map, Some}
use Rattle.std.specs.List.{All, Any, Contains}
use Rattle.graphql_schema.specs.declared.meta.MetaType.{MetaType}
use Rattle.graphql_rule_errors.specs.Places.{Places}
use Rattle.graphql_merging.specs.Members.{Member, members}
use Rattle.graphql_merging.specs.Merging.{SameField, Agree, Merge, Merging, Together, apart}
use Rattle.graphql_merging.specs.Sets.{Set, members_of, directs_of, sets_of}
use Rattle.graphql_merging.specs.Pieces.{Pieces, PieceField, IsPieceOf, HasOwnPieces, Meets}
use Rattle.graphql_merging.specs.Told.{Names, Tells, AgreeIfOneKey, later_pairs}
use Rattle.graphql_merging.specs.Contract.{IsSound}
use Rattle.graphql_names.specs.Names.{Bytes}
use Rattle.graphql_written_out.specs.Trees.{Directives, Tree}
use Rattle.graphql_written_out.specs.Fields.{fields}
use Rattle.graphql_schema.specs.Subtypes.{is_named_subtype}
use Rattle.graphql_schema.specs.Lookups.{own_name, type_named}
use Rattle.graphql_merging.specs.Chosen.{found_of, under_key, own_set, members_of_all}
use Rattle.graphql_merging.specs.Chosen.{ConditionsAreKnown, chosen, chosen_of_all, IsAbove}
use Rattle.graphql_merging.specs.Chosen.{OneObject}

module _ (S C : Type 0) (eq : S → S → Bool) where
  -- a set merges exactly where each two fields that stand together in it agree
  abbrev pub MergingIsAgreement : Type 0
  MergingIsAgreement = (types : List (MetaType S C)) (ms : List (Member S C))
      → Merging eq types ms
      ↔ ((x : Bool) (a b : Member S C) → Together eq types ms x a b → Agree eq types x a b)

  -- fields that stand together and do not agree do not merge
  abbrev pub DisagreementIsConflict : Type 0
  DisagreementIsConflict = (types : List (MetaType S C)) (x : Bool) (a b : Member S C)
      → (Agree eq types x a b → ⊥) → Merge eq types x a b → ⊥

  -- two fields agree either way round
  abbrev pub AgreementIsMutual : Type 0
  AgreementIsMutual = (types : List (MetaType S C)) (x : Bool) (a b : Member S C)
      → Agree eq types x a b → Agree eq types x b a

  -- they merge either way round
  abbrev pub MergingIsMutual : Type 0
  MergingIsMutual = (types : List (MetaType S C)) (x : Bool) (a b : Member S C)
      → Merge eq types x a b → Merge eq types x b a

  -- a field agrees with itself
  abbrev pub AgreesWithItself : Type 0
  AgreesWithItself =
      (types : List (MetaType S C)) (x : Bool) (a : Member S C) → Agree eq types x a a

  -- where a set merges, each set in it does
  abbrev pub NestedSetsFollow : Type 0
  NestedSetsFollow =
      (types : List (MetaType S C)) (set : Set S C) → Merging eq types (members_of types set)
      → All (λ inner. Merging eq types (members_of types inner)) (sets_of types set)

  -- what is told of the fields that stand directly in a set names each two of one response key that
  -- differ in names or arguments
  abbrev pub DirectConflictsAreNamed : Type 0
  DirectConflictsAreNamed = (types : List (MetaType S C)) (set : Set S C) (es : Places)
      → Tells (AgreeIfOneKey eq types false) (later_pairs (directs_of types set)) es
      → (a b : Member S C) → Contains (later_pairs (directs_of types set)) (a, b)
      → a.head.key ≡ b.head.key → (SameField eq types a b → ⊥) → Any (λ e. Names e a b) es

  -- and nothing but conflicts
  abbrev pub DirectConflictsAreConflicts : Type 0
  DirectConflictsAreConflicts = (types : List (MetaType S C)) (set : Set S C) (es : Places)
      → Tells (AgreeIfOneKey eq types false) (later_pairs (directs_of types set)) es
      → IsSound eq types (set ∷ []) es

  -- pairs of pieces whose fields stand together in a set lead to such pairs: a piece of the set
  -- with itself, the fragments in either, the own pieces of two fields of one response key
  abbrev pub PairsStayTogether : Type 0
  PairsStayTogether = (types : List (MetaType S C)) (t : Pieces S C) (ms : List (Member S C))
      → HasOwnPieces t eq types →
      ((p : ℕ) → IsPieceOf t p ms → Meets t eq types ms p p false)
      × ((p q r : ℕ) (x : Bool) → Meets t eq types ms p q x → Contains (t.inner p) r
      → Meets t eq types ms r q x)
      × ((p q r : ℕ) (x : Bool) → Meets t eq types ms p q x → Contains (t.inner q) r
      → Meets t eq types ms p r x)
      × ((p q : ℕ) (f g : PieceField S C) (x : Bool) → Meets t eq types ms p q x
      → Contains (t.direct p) f → Contains (t.direct q) g
      → f.member.head.key ≡ g.member.head.key
      → Meets t eq types ms f.own g.own (x || apart f.member g.member))

  -- where nothing is told, each pair fits
  abbrev pub NothingToldFits : Type 0
  NothingToldFits = (types : List (MetaType S C)) (x : Bool) (ps : List (Member S C × Member S C))
      → Tells (AgreeIfOneKey eq types x) ps []
      → (a b : Member S C) → Contains ps (a, b) → AgreeIfOneKey eq types x a b

module _ (S C : Type 0) where
  -- where the types of a set are known, the members that apply to an object type are the fields
  -- that are collected for it
  abbrev pub ChosenAreCollected : Type 0
  ChosenAreCollected = (types : List (MetaType S C)) (drops : Directives S → Bool)
      (is_above : Bytes → Bool) (parent : MetaType S C) (tree : Tree S)
      → ConditionsAreKnown types tree
      → map found_of
      (chosen types drops is_above (Some parent) tree) ≡ fields drops is_above tree

  module _ (eq : S → S → Bool) where
    -- of sets that merge together, two fields of one response key that apply to one object type
    -- have one name and the same arguments
    abbrev pub OneField : Type 0
    OneField = (types : List (MetaType S C)) (drops : Directives S → Bool) (is_above : Bytes → Bool)
        (object : Bytes) (sets : List (Set S C))
        → OneObject types is_above object → All (IsAbove types is_above) sets
        → Merging eq types (members_of_all types sets)
        → (a b : Member S C) → Contains (chosen_of_all types drops is_above sets) a
        → Contains (chosen_of_all types drops is_above sets) b → a.head.key ≡ b.head.key
        → SameField eq types a b

    -- and the own sets of all fields of a key that apply to it merge together again
    abbrev pub OwnSetsMerge : Type 0
    OwnSetsMerge = (types : List (MetaType S C)) (drops : Directives S → Bool)
        (is_above : Bytes → Bool) (object key : Bytes) (sets : List (Set S C))
        → OneObject types is_above object → All (IsAbove types is_above) sets
        → Merging eq types (members_of_all types sets)
        → Merging eq types (members_of_all types
        (map (own_set types) (under_key key (chosen_of_all types drops is_above sets))))

    -- in a schema both premises hold of a set that selects from an object type, by the subtypes of
    -- the schema
    abbrev pub OneFieldOfObject : List (MetaType S C) → Type 0
    OneFieldOfObject types = (drops : Directives S → Bool) (object : MetaType S C) (tree : Tree S)
        → type_named types (own_name object) ≡ Some object
        → Merging eq types (members types (Some object) tree)
        → let found =
        chosen types drops (is_named_subtype types (own_name object)) (Some object) tree in
        (a b : Member S C) → Contains found a → Contains found b → a.head.key ≡ b.head.key
        → SameField eq types a b
