-- Fields by their response keys, and by the object types among their parents.
use Rattle.std.specs.Prelude.{◌≡◌, ℕ, Bool, true, false, List, [], ◌∷◌, ◌++◌, map, Option, Some}
use Rattle.std.specs.Prelude.{None, slice_get, fold, filter, if◌then◌else◌}
use Rattle.std.specs.List.{Contains, list_any}
use Rattle.std.specs.Option.{option_map_or, is_some}
use Rattle.std.specs.Str.{bytes_eq}
use Rattle.graphql_names.specs.Names.{Bytes}
use Rattle.graphql_schema.specs.declared.meta.MetaType.{MetaType}
use Rattle.graphql_schema.specs.Lookups.{own_name, is_object}
use Rattle.graphql_tree.specs.declared.document.Fragment.{Fragment}
use Rattle.graphql_written_out.specs.Written.{response_key}
use Rattle.graphql_merging.specs.Members.{declared_type}
use Rattle.graphql_merging.specs.Tables.{piece_field}
use Rattle.graphql_merging.specs.declared.table.SetTable.{SetTable}
use Rattle.graphql_merging.specs.declared.table.WrittenField.{WrittenField}
use Rattle.graphql_bundles.specs.Bundles.{BundleGroup, admits}

-- a response key, and fields that have it
abbrev pub KeyGroup : Type 0 → Type 0 → Type 0
KeyGroup S C = Bytes × List (WrittenField S C)

module _ {S C : Type 0} where
  -- the fields that stand directly in a set of the table
  abbrev pub fields_in : SetTable S C → ℕ → List (WrittenField S C)
  fields_in table number = option_map_or (λ set. set.fields) (slice_get table.sets number) []

  -- the response key of a field
  abbrev pub key_at : WrittenField S C → Bytes
  key_at f = response_key f.selected.field.now.item.alias f.selected.field.now.item.name

  -- the fields of a response key
  abbrev pub under : Bytes → List (WrittenField S C) → List (WrittenField S C)
  under key = filter (λ f. bytes_eq key (key_at f))

  -- the fields in groups, one for each response key
  pub record IsGrouped (fields : List (WrittenField S C))
      (groups : List (KeyGroup S C)) : Type 0 where
    pub of : (g : KeyGroup S C) → Contains groups g → g.1 ≡ under g.0 fields
    pub all : (f : WrittenField S C) → Contains fields f
        → Contains (map (λ g. g.0) groups) (key_at f)

  -- the groups, with an empty one for the field's key if it has none
  abbrev pub begun : WrittenField S C → List (KeyGroup S C) → List (KeyGroup S C)
  begun f gs =
      if list_any (bytes_eq (key_at f)) (map (λ g. g.0) gs) then gs else gs ++ (key_at f, []) ∷ []

  -- a group takes the field of its key
  abbrev pub takes : WrittenField S C → KeyGroup S C → KeyGroup S C
  takes f g = if bytes_eq (key_at f) g.0 then (g.0, g.1 ++ f ∷ []) else g

  -- the groups with the field
  abbrev pub put : WrittenField S C → List (KeyGroup S C) → List (KeyGroup S C)
  put f gs = map (takes f) (begun f gs)

  -- the name of a type, if it is an object type
  abbrev pub object_name : MetaType S C → Option Bytes
  object_name m = if is_object m then Some (own_name m) else None

  -- the field is of a type that the part admits
  abbrev pub is_of : Option Bytes → WrittenField S C → Bool
  is_of name f = admits name (is_object f.selected.parent.now) (own_name f.selected.parent.now)

  -- the name of the field's parent, if it is an object type, is among the names
  abbrev pub with_name : List Bytes → WrittenField S C → List Bytes
  with_name names f =
      if is_object f.selected.parent.now
      then (if list_any (bytes_eq (own_name f.selected.parent.now)) names then names
      else names ++ own_name f.selected.parent.now ∷ [])
      else names

  -- the names of the object types among the fields' parents, each once
  abbrev pub names_in : List (WrittenField S C) → List Bytes
  names_in = fold with_name []

  -- the schema has the field
  abbrev pub is_declared : WrittenField S C → Bool
  is_declared f = is_some (declared_type f.selected.parent.now f.selected.field.now.item.name.item)

  -- fields of one response key as a group
  abbrev pub group_of : List (Fragment S) → List (WrittenField S C) → BundleGroup S C
  group_of fragments fields =
      record { fields = map (piece_field fragments) fields; names = names_in fields }

-- the place of an item that passes the test, or none does
abbrev pub IsFoundAt : {X : Type 0} → (X → Bool) → List X → Option ℕ → Type 0
IsFoundAt {X} test xs None = (x : X) → Contains xs x → test x ≡ false
IsFoundAt {X} test xs (Some place) =
    (h : X) × (slice_get xs place ≡ Some h) × (test h ≡ true)
