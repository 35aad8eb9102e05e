-- What a table of a document's selection sets holds (GraphQL October 2021, 2.4 Selection Sets).
use Rattle.std.specs.Prelude.{◌≡◌, ℕ, List, map, length, take, slice_get, Some}
use Rattle.std.specs.List.{AllZip}
use Rattle.graphql_tree.specs.declared.document.Definition.{Definition}
use Rattle.graphql_schema.specs.Declarations.{Declarations}
use Rattle.graphql_tree.specs.Definitions.{fragments_listed}
use Rattle.graphql_merging.specs.declared.selected.SelectedField.{SelectedField}
use Rattle.graphql_merging.specs.declared.table.WrittenField.{WrittenField}
use Rattle.graphql_merging.specs.declared.table.WrittenSet.{WrittenSet}
use Rattle.graphql_set_table.specs.SetsAt.{SetAt, FieldAt, fields_at, inner_at, own_set}
use Rattle.graphql_set_table.specs.SetsAt.{definition_set}

abbrev pub field_at : {S C : Type 0} → SelectedField S C → FieldAt S C
field_at f = record { parent = f.parent.now; field = f.field.now }

-- `all`: the sets, each at its number
module _ {S C : Type 0} (all : List (SetAt S C)) where
  -- the set of this number
  abbrev pub IsNumberOf : ℕ → SetAt S C → Type 0
  IsNumberOf number set = slice_get all number ≡ Some set

  module _ (schema : Declarations S C) where
    -- the field, with the number of its own set
    abbrev pub IsFieldOf : WrittenField S C → FieldAt S C → Type 0
    IsFieldOf written field =
        (field_at written.selected ≡ field) × IsNumberOf written.own (own_set schema field)

    module _ (document : List (Definition S)) where
      -- what stands directly in a set: its fields, and its fragments by their numbers
      pub record IsSetOf (written : WrittenSet S C) (set : SetAt S C) : Type 0 where
        pub fields : AllZip IsFieldOf written.fields (fields_at set)
        pub inner : AllZip IsNumberOf written.inner
            (inner_at schema (fragments_listed document) set)

-- the sets of the definitions come first, in order
abbrev pub DefinitionsFirst : {S C : Type 0} → Declarations S C → List (Definition S)
    → List (SetAt S C) → Type 0
DefinitionsFirst schema document all =
    take (length document) all ≡ map (definition_set schema) document

-- a table of the sets: each at its number
pub record IsTable {S C : Type 0} (schema : Declarations S C) (document : List (Definition S))
    (all : List (SetAt S C)) (sets : List (WrittenSet S C)) : Type 0 where
  pub count : length sets ≡ length all
  pub definitions : DefinitionsFirst schema document all
  pub each : (k : ℕ) (written : WrittenSet S C) (set : SetAt S C) → slice_get sets k ≡ Some written
      → slice_get all k ≡ Some set → IsSetOf all schema document written set
