-- Bundles: pieces that stand together, of which fields are compared with one of their class
-- (GraphQL October 2021, 5.3.2 Field Selection Merging).
use Rattle.std.specs.Prelude.{◌≡◌, ℕ, ◌<◌, Bool, true, false, not, ◌||◌, List, [], ◌∷◌, map, Option}
use Rattle.std.specs.Prelude.{Some, None, ◌⊎◌}
use Rattle.std.specs.List.{Contains}
use Rattle.std.specs.Str.{bytes_eq}
use Rattle.graphql_text.specs.declared.position.SourcePosition.{SourcePosition}
use Rattle.graphql_names.specs.Names.{Bytes}
use Rattle.graphql_schema.specs.declared.meta.MetaType.{MetaType}
use Rattle.graphql_schema.specs.Types.{TypeOf}
use Rattle.graphql_schema.specs.Lookups.{own_name, is_object}
use Rattle.graphql_rule_errors.specs.Places.{Places}
use Rattle.graphql_merging.specs.Members.{Member, declared}
use Rattle.graphql_merging.specs.Merging.{SameField, SameShapes, Agree, Together}
use Rattle.graphql_merging.specs.Pieces.{Pieces, PieceField, StandsIn}
use Rattle.graphql_merging.specs.Told.{Names}

-- pieces that stand together, those of fragments in them too, and whether
-- fields around them are apart
pub record Bundle : Type 0 where
  pub sets : List ℕ
  pub around : Bool

-- some fields of a group and the flag for their own sets: all fields, or those of an object type of
-- this name with those whose parent is no object type
pub record GroupPart : Type 0 where
  pub of : Option Bytes
  pub around : Bool

-- all fields of a group
abbrev pub every : Bool → GroupPart
every around = record { of = None; around = around }

-- those of the object type of this name
abbrev pub of_object : Bytes → GroupPart
of_object name = record { of = Some name; around = false }

-- the parts of a group, by the names of the object types among its parents. Fields of two object
-- types are never in one part without the flag
abbrev pub parts : Bool → List Bytes → List GroupPart
parts true names = every true ∷ []
parts false [] = every false ∷ []
parts false (n ∷ []) = of_object n ∷ []
parts false (n ∷ m ∷ names) = every true ∷ map of_object (n ∷ m ∷ names)

-- a parent, by whether it is an object type and by its name, is in the part
abbrev pub admits : Option Bytes → Bool → Bytes → Bool
admits None object name = true
admits (Some other) object name = not object || bytes_eq name other

-- fields of one response key, and the names of the object types among their parents
pub record BundleGroup (S C : Type 0) : Type 0 where
  pub fields : List (PieceField S C)
  pub names : List Bytes

module _ {S C : Type 0} where
  -- a field is in the part
  abbrev pub in_part : GroupPart → Member S C → Bool
  in_part part m = admits part.of (is_object m.parent) (own_name m.parent)

  -- the name of a field's parent, if that is an object type, is among the names
  abbrev pub IsNamed : List Bytes → Member S C → Type 0
  IsNamed names m = is_object m.parent ≡ true → Contains names (own_name m.parent)

  -- the own set of a field in this part of the group
  abbrev pub OwnOf : BundleGroup S C → GroupPart → ℕ → Type 0
  OwnOf group part p =
      (f : PieceField S C) × Contains group.fields f × (in_part part f.member ≡ true) × (f.own ≡ p)

module _ {S C : Type 0} (types : List (MetaType S C)) where
  -- a field has the shape of the first that is declared; or none is
  abbrev pub HasShape : Option TypeOf → Member S C → Type 0
  HasShape None m = declared m ≡ None
  HasShape (Some s) m = SameShapes types (declared m) (Some s)

module _ {S C : Type 0} (eq : S → S → Bool) (types : List (MetaType S C)) where
  -- the fields of a group agree with the first of their class
  pub record IsAlike (x : Bool) (group : BundleGroup S C) : Type 0 where
    pub shape : (s : Option TypeOf)
        × ((f : PieceField S C) → Contains group.fields f → HasShape types s f.member)
    pub field : (part : GroupPart) → Contains (parts x group.names) part → part.around ≡ false
        → (h : Member S C)
        × ((f : PieceField S C) → Contains group.fields f → in_part part f.member ≡ true
        → SameField eq types f.member h)

module _ {S C : Type 0} (t : Pieces S C) where
  -- a field stands directly in one of these pieces
  abbrev pub StandsAmong : List ℕ → PieceField S C → Type 0
  StandsAmong sets f = (p : ℕ) × Contains sets p × Contains (t.direct p) f

  -- what stands in a piece, or in a fragment in it, stands directly in one of these
  abbrev pub CoversPiece : List ℕ → ℕ → Type 0
  CoversPiece sets p = (f : PieceField S C) → StandsIn t p f → StandsAmong sets f

  -- no field stands in the piece, nor in a fragment in it
  abbrev pub IsVoid : ℕ → Type 0
  IsVoid p = (f : PieceField S C) → StandsIn t p f → ⊥

  -- one bundle with this flag holds the pieces, or they are all void
  abbrev pub IsGathered : List Bundle → Bool → (ℕ → Type 0) → Type 0
  IsGathered bundles x P =
      ((p : ℕ) → P p → IsVoid p)
      ⊎ ((b : Bundle) × Contains bundles b × (b.around ≡ x)
      × ((p : ℕ) → P p → CoversPiece b.sets p))

  -- two pieces stood in one bundle with this flag, or one of them is void
  abbrev pub Stood : List Bundle → ℕ → ℕ → Bool → Type 0
  Stood bundles p q x =
      (IsVoid p ⊎ IsVoid q)
      ⊎ ((b : Bundle) × Contains bundles b × (b.around ≡ x) × CoversPiece b.sets p
      × CoversPiece b.sets q)

  -- fields of one response key that stand in a bundle
  pub record IsGroupOf (b : Bundle) (group : BundleGroup S C) : Type 0 where
    pub stand : (f : PieceField S C) → Contains group.fields f → StandsAmong b.sets f
    pub key : (f g : PieceField S C) → Contains group.fields f → Contains group.fields g
        → f.member.head.key ≡ g.member.head.key
    pub named : (f : PieceField S C) → Contains group.fields f → IsNamed group.names f.member

  module _ (eq : S → S → Bool) (types : List (MetaType S C)) where
    -- a group is gone through: the own sets of each of its parts are begun, and
    -- without errors its fields are alike
    pub record IsGroupPassed (bundles : List Bundle) (errors : Places) (x : Bool)
        (group : BundleGroup S C) : Type 0 where
      pub begun : (part : GroupPart) → Contains (parts x group.names) part
          → IsGathered bundles part.around (OwnOf group part)
      pub alike : errors ≡ [] → (f : PieceField S C) → Contains group.fields f
          → IsAlike eq types x group

    -- a bundle is gone through: its fields are grouped, and each group is gone through
    pub record IsPassed (bundles : List Bundle) (errors : Places) (b : Bundle) : Type 0 where
      pub groups : List (BundleGroup S C)
      pub grouped : (f g : PieceField S C) → StandsAmong b.sets f → StandsAmong b.sets g
          → f.member.head.key ≡ g.member.head.key
          → (group : BundleGroup S C) × Contains groups group × Contains group.fields f
          × Contains group.fields g
      pub of : (group : BundleGroup S C) → Contains groups group → IsGroupOf b group
      pub each : (group : BundleGroup S C) → Contains groups group
          → IsGroupPassed bundles errors b.around group

    -- fields of one key in the bundle stand together in the set, with the flag
    -- or without where the bundle has it
    abbrev pub MeetAll : List (Member S C) → Bundle → Type 0
    MeetAll ms b =
        (f g : PieceField S C) → StandsAmong b.sets f → StandsAmong b.sets g
        → f.member.head.key ≡ g.member.head.key
        → (y : Bool) × (y ≡ true → b.around ≡ true) × Together eq types ms y f.member g.member

  module _ (definitions : ℕ) where
    -- a bundle is reached from a definition's set: its fields stand in it, or in the own sets of a
    -- part of a group of a bundle that is reached
    pub data IsReachedBundle : Bundle → Type 0 where
      of_definition : (k : ℕ) (b : Bundle) → k < definitions
          → ((f : PieceField S C) → StandsAmong b.sets f → StandsIn t k f) → IsReachedBundle b
      of_part : (b c : Bundle) (group : BundleGroup S C) (part : GroupPart) → IsReachedBundle b
          → IsGroupOf b group → Contains (parts b.around group.names) part → c.around ≡ part.around
          → ((f : PieceField S C) → StandsAmong c.sets f
          → (p : ℕ) × OwnOf group part p × StandsIn t p f)
          → IsReachedBundle c

    -- an error of two fields of one response key in a bundle that is reached, which do not agree
    abbrev pub IsFoundAmong : (S → S → Bool) → List (MetaType S C) → List SourcePosition → Type 0
    IsFoundAmong eq types e =
        (b : Bundle) × IsReachedBundle b
        × ((f : PieceField S C) × (g : PieceField S C) × StandsAmong b.sets f
        × StandsAmong b.sets g × (f.member.head.key ≡ g.member.head.key)
        × (Agree eq types b.around f.member g.member → ⊥) × Names e f.member g.member)
