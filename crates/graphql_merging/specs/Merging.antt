-- Fields that merge (GraphQL October 2021, 5.3.2 Field Selection Merging: FieldsInSetCanMerge,
-- SameResponseShape).
use Rattle.std.specs.Prelude.{◌≡◌, ℕ, zero, suc, Bool, true, false, not, ◌&&◌, ◌||◌, List, map}
use Rattle.std.specs.Prelude.{Option, Some}
use Rattle.std.specs.List.{All, Any, Contains}
use Rattle.std.specs.Str.{bytes_eq}
use Rattle.graphql_names.specs.Names.{Bytes, passes}
use Rattle.graphql_names.specs.declared.type_modifier.TypeModifier.{TypeModifier}
use Rattle.graphql_names.specs.declared.type_modifier.TypeModifier.TheVariants as modifier
use Rattle.graphql_values.specs.SameValue.{SameValue}
use Rattle.graphql_tree.specs.Arguments.{Argument}
use Rattle.graphql_schema.specs.declared.meta.MetaType.{MetaType}
use Rattle.graphql_schema.specs.Types.{TypeOf}
use Rattle.graphql_schema.specs.Lookups.{type_named, own_name, is_object, is_scalar, is_enum}
use Rattle.graphql_merging.specs.Members.{Member, declared, members_below}

module _ {S : Type 0} (eq : S → S → Bool) where
  -- an argument of this name and this value is among them
  abbrev pub IsAmong : List (Argument S) → Argument S → Type 0
  IsAmong others x = Any (λ y. (x.0.item ≡ y.0.item) × SameValue S eq x.1.item y.1.item) others

  -- the same as sets: each of either is among the others
  abbrev pub SameArguments : List (Argument S) → List (Argument S) → Type 0
  SameArguments xs ys = All (IsAmong ys) xs × All (IsAmong xs) ys

abbrev pub is_list : TypeModifier → Bool
is_list (modifier.List size) = true
is_list modifier.NonNull = false

-- the same lists and non-nulls; the sizes of lists do not count
abbrev pub SameWraps : List TypeModifier → List TypeModifier → Type 0
SameWraps xs ys = map is_list xs ≡ map is_list ys

module _ {S C : Type 0} (types : List (MetaType S C)) where
  -- a scalar or an enum (5.3.3 Leaf Field Selections)
  abbrev pub is_leaf : Bytes → Bool
  is_leaf name = passes (λ m. is_scalar m || is_enum m) (type_named types name)

  -- if the one or the other is a leaf they are the same; else both have fields
  abbrev pub SameShape : TypeOf → TypeOf → Type 0
  SameShape s t = SameWraps s.modifiers t.modifiers
      × ((is_leaf s.name || is_leaf t.name) ≡ true → s.name ≡ t.name)

  -- of a field that is not declared nothing is asked here
  abbrev pub SameShapes : Option TypeOf → Option TypeOf → Type 0
  SameShapes (Some s) (Some t) = SameShape s t
  SameShapes _ _ = Unit {0}

-- the two are different object types
abbrev pub are_different_objects : {S C : Type 0} → MetaType S C → MetaType S C → Bool
are_different_objects m n = (is_object m && is_object n) && not (bytes_eq (own_name m) (own_name n))

-- their parents are two different object types, so that no object has both fields
abbrev pub apart : {S C : Type 0} → Member S C → Member S C → Bool
apart a b = are_different_objects a.parent b.parent

module _ {S C : Type 0} (eq : S → S → Bool) (types : List (MetaType S C)) where
  -- one field, with one set of arguments
  abbrev pub SameField : Member S C → Member S C → Type 0
  SameField a b = (a.head.name ≡ b.head.name) × SameArguments eq a.head.arguments b.head.arguments

  -- what two fields of one response key have to have alike; `x`: fields around them are apart
  abbrev pub Agree : Bool → Member S C → Member S C → Type 0
  Agree x a b =
      ((x || apart a b) ≡ false → SameField a b) × SameShapes types (declared a) (declared b)

  -- two fields of one response key merge to a depth; below fields that are apart shapes alone are
  -- asked
  abbrev pub Merges : ℕ → Bool → Member S C → Member S C → Type 0
  Merges zero x a b = Unit {0}
  Merges (suc n) x a b =
      Agree x a b
      × ((c d : Member S C) → Contains (members_below types a) c
      → Contains (members_below types b)
      d → c.head.key ≡ d.head.key → Merges n (x || apart a b) c d)

  -- they merge, however deep their sets are
  abbrev pub Merge : Bool → Member S C → Member S C → Type 0
  Merge x a b = (n : ℕ) → Merges n x a b

  -- a set merges: each two of its fields that have one response key do, and so each with itself
  abbrev pub Merging : List (Member S C) → Type 0
  Merging ms =
      (a b : Member S C) → Contains ms a → Contains ms b → a.head.key ≡ b.head.key → Merge false a b

  -- two fields stand together: in the set, or in the sets of two fields that stand together; always
  -- of one response key
  pub data Together (ms : List (Member S C)) : Bool → Member S C → Member S C → Type 0 where
    in_set : (a b : Member S C) → Contains ms a → Contains ms b → a.head.key ≡ b.head.key
        → Together ms false a b
    in_sets : (x : Bool) (a b c d : Member S C) → Together ms x a b
        → Contains (members_below types a) c → Contains (members_below types b) d
        → c.head.key ≡ d.head.key → Together ms (x || apart a b) c d
