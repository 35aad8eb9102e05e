-- Fields by numbers: those of one response key, those that have one name with arguments and one
-- shape too, and those of one object type.
use Rattle.std.specs.Prelude.{◌≡◌, ℕ, ◌-◌, eqb, Bool, true, not, List, [], Option, Some, get_or}
use Rattle.std.specs.Prelude.{slice_get, position, ◌⊎◌}
use Rattle.std.specs.List.{Contains}
use Rattle.std.specs.Str.{bytes_eq}
use Rattle.graphql_schema.specs.declared.meta.MetaType.{MetaType}
use Rattle.graphql_merging.specs.Members.{declared}
use Rattle.graphql_merging.specs.Merging.{SameField, SameShapes, are_different_objects}
use Rattle.graphql_merging.specs.Selected.{member_of}
use Rattle.graphql_merging.specs.declared.table.SetTable.{SetTable}
use Rattle.graphql_merging.specs.declared.table.WrittenField.{WrittenField}
use Rattle.graphql_bundles.specs.Groups.{fields_in, is_declared, key_at, object_name}
use Rattle.graphql_rules_merging.specs.declared.classes.Draft.{Draft}
use Rattle.graphql_rules_merging.specs.declared.field_numbers.FieldNumbers.{FieldNumbers}

-- numbers that tell nothing
abbrev pub unnumbered : FieldNumbers
unnumbered = record { key = 0; class = 0; parent = 0 }

-- the numbers of a field, by that of its own set
abbrev pub numbers_of : {S C : Type 0} → List FieldNumbers → WrittenField S C → FieldNumbers
numbers_of numbers f = get_or numbers f.own unnumbered

-- no number, or one more than the place of a text among some
abbrev pub HasPlace : List (List ℕ) → ℕ → Option (List ℕ) → Type 0
HasPlace texts number text =
    (number ≡ 0)
    ⊎ ((x : List ℕ) × (text ≡ Some x) × (position (bytes_eq x) texts ≡ Some (number - 1)))

module _ {S C : Type 0} where
  -- of two fields with numbers of keys these tell whether they have one response key
  abbrev pub TellKeys : FieldNumbers → FieldNumbers → WrittenField S C → WrittenField S C → Type 0
  TellKeys m n f g =
      (m.key ≡ 0 → ⊥) → (n.key ≡ 0 → ⊥) → eqb m.key n.key ≡ bytes_eq (key_at f) (key_at g)

  -- of two fields with numbers of parents these tell whether they are different object types
  abbrev pub TellParents : FieldNumbers → FieldNumbers → WrittenField S C → WrittenField S C
      → Type 0
  TellParents m n f g =
      (m.parent ≡ 0 → ⊥) → (n.parent ≡ 0 → ⊥)
      → not (eqb m.parent n.parent)
      ≡ are_different_objects f.selected.parent.now g.selected.parent.now

module _ {S C : Type 0} (eq : S → S → Bool) (types : List (MetaType S C)) where
  -- two fields of one response key that agree, whatever stands around them
  pub record AgreeAnywhere (f g : WrittenField S C) : Type 0 where
    pub key : key_at f ≡ key_at g
    pub field : SameField eq types (member_of [] f.selected) (member_of [] g.selected)
    pub shape : SameShapes types (declared (member_of [] f.selected))
        (declared (member_of [] g.selected))

  -- a field without a class, or one that is like the head of its class, which is declared
  abbrev pub HasClass : ℕ → List (WrittenField S C) → WrittenField S C → Type 0
  HasClass class heads f =
      (class ≡ 0)
      ⊎ ((h : WrittenField S C) × (slice_get heads (class - 1) ≡ Some h)
      × AgreeAnywhere h f × (is_declared h ≡ true))

  -- what is tried is so of a field
  pub record IsNumbered (draft : Draft S C) (f : WrittenField S C) : Type 0 where
    pub key : HasPlace draft.keys.keys (numbers_of draft.numbers.items f).key (Some (key_at f))
    pub class : HasClass (numbers_of draft.numbers.items f).class draft.heads f
    pub parent : HasPlace draft.parents.keys (numbers_of draft.numbers.items f).parent
        (object_name f.selected.parent.now)

  -- what the numbers of two fields tell
  pub record DoTell (m n : FieldNumbers) (f g : WrittenField S C) : Type 0 where
    pub keys : TellKeys m n f g
    pub classes : m.class ≡ n.class → (m.class ≡ 0 → ⊥) → AgreeAnywhere f g
    pub parents : TellParents m n f g

  -- they tell this of each field of one list and each of another
  abbrev pub AreNumbered : List FieldNumbers → List (WrittenField S C) → List (WrittenField S C)
      → Type 0
  AreNumbered numbers fs gs =
      (f g : WrittenField S C) → Contains fs f → Contains gs g
      → DoTell (numbers_of numbers f) (numbers_of numbers g) f g

  -- and of the fields of all sets of a table
  abbrev pub AreAllNumbered : SetTable S C → List FieldNumbers → Type 0
  AreAllNumbered table numbers =
      (p q : ℕ) → AreNumbered numbers (fields_in table p) (fields_in table q)
