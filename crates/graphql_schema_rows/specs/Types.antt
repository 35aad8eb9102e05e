-- The types that rows of text make, and why there is none (GraphQL October 2021, 3.2 Descriptions,
-- 3.4 Types).
use Rattle.std.specs.Prelude.{◌≡◌, ◌⊎◌, Bool, true, false, List, ◌∷◌, ◌++◌, map}
use Rattle.std.specs.Borrow.{Bor}
use Rattle.std.specs.List.{AllZip}
use Rattle.graphql_names.specs.Names.{Bytes}
use Rattle.graphql_scalars.specs.ScalarAnswers.{ScalarAnswer}
use Rattle.graphql_grammar.specs.Faults.{Reading}
use Rattle.graphql_schema.specs.declared.meta.argument.Argument.{Argument}
use Rattle.graphql_schema.specs.declared.meta.enum_value.EnumValue.{EnumValue}
use Rattle.graphql_schema.specs.declared.meta.field.Field.{Field}
use Rattle.graphql_schema.specs.declared.meta.MetaType.{MetaType}
use Rattle.graphql_schema.specs.declared.meta.MetaType.TheVariants as meta
use Rattle.graphql_schema_rows.specs.Heads.{name_part}
use Rattle.graphql_schema_rows.specs.Rows.{ArgumentMeans, FieldMeans, HeadMeans, NameMeans}
use Rattle.graphql_schema_rows.specs.Rows.{RefusedAt, RefusesArgument, RefusesField, RefusesHead}
use Rattle.graphql_schema_rows.specs.Rows.{RefusesName, RefusesValue, ValueMeans}
use Rattle.graphql_schema_rows.specs.declared.head.Head.{Head}
use Rattle.graphql_schema_rows.specs.declared.row_fault.RowFault.{RowFault}
use Rattle.graphql_schema_rows.specs.declared.type_row.CheckedRow.{CheckedRow}
use Rattle.graphql_schema_rows.specs.declared.type_row.TypeRow.{TypeRow}
use Rattle.graphql_schema_rows.specs.declared.type_row.TypeRow.TheVariants as row

-- the name that a row has for its type, behind a description
abbrev pub row_name : TypeRow → Bytes
row_name (row.Object head interfaces rows) = name_part head.now
row_name (row.Interface head interfaces rows) = name_part head.now
row_name (row.Union head members) = name_part head.now
row_name (row.Enum head rows) = name_part head.now
row_name (row.InputObject head rows) = name_part head.now
row_name (row.OneOf head rows) = name_part head.now

abbrev pub row_names : {C : Type 0} → List (CheckedRow C) → List Bytes
row_names rows = map (λ it. row_name it.row) rows

module _ {S C : Type 0} where
  abbrev pub object : Head → List (Field S) → List Bytes → MetaType S C
  object head fields interfaces = meta.Object (record {
    name = head.name;
    description = head.description;
    fields = fields;
    interface_names = interfaces;
  })

  abbrev pub interface : Head → List (Field S) → List Bytes → MetaType S C
  interface head fields interfaces = meta.Interface (record {
    name = head.name;
    description = head.description;
    fields = fields;
    interface_names = interfaces;
  })

  abbrev pub union_type : Head → List Bytes → MetaType S C
  union_type head members = meta.Union
      (record { name = head.name; description = head.description; of_type_names = members })

  abbrev pub enumeration : C → Head → List EnumValue → MetaType S C
  enumeration check head values = meta.Enum
      (record { name = head.name; description = head.description; values = values; check = check })

  abbrev pub input_object : C → Head → List (Argument S) → MetaType S C
  input_object check head fields = meta.InputObject (record {
    name = head.name;
    description = head.description;
    input_fields = fields;
    check = check;
    exactly_one = false;
  })

  -- of which exactly one field is given
  abbrev pub one_of : C → Head → List (Argument S) → MetaType S C
  one_of check head fields = meta.InputObject (record {
    name = head.name;
    description = head.description;
    input_fields = fields;
    check = check;
    exactly_one = true;
  })

  -- a type of this head, of what its rows mean, and of the names that it lists
  pub record IsMadeOf {A : Type 0} (Means : Bor Bytes → A → Type 0)
      (make : Head → List A → List Bytes → MetaType S C)
      (head : Bor Bytes) (rows listed : List (Bor Bytes)) (m : MetaType S C) : Type 0 where
    pub own : Head
    pub headed : HeadMeans head own
    pub parts : List A
    pub defined : AllZip Means rows parts
    pub names : List Bytes
    pub lists : AllZip NameMeans listed names
    pub is : m ≡ make own parts names

  -- a type of this head, and of what its rows mean
  pub record IsMade {A : Type 0} (Means : Bor Bytes → A → Type 0)
      (make : Head → List A → MetaType S C)
      (head : Bor Bytes) (rows : List (Bor Bytes)) (m : MetaType S C) : Type 0 where
    pub own : Head
    pub headed : HeadMeans head own
    pub parts : List A
    pub defined : AllZip Means rows parts
    pub is : m ≡ make own parts

-- the type's head is refused, or one of the rows
abbrev pub Refuses : (Bor Bytes → RowFault → Type 0) → Bor Bytes → List (Bor Bytes) → RowFault
    → Type 0
Refuses RefusesRow head rows e = (RefusesHead head e) ⊎ (RefusedAt RefusesRow rows e)

-- ---- any type, by what scalars mean

module _ {S : Type 0} (reads : Reading S) (of_bool : Bool → S) (answer : S → ScalarAnswer) where
  module _ {C : Type 0} where
    -- of the given check where it is an enum or an input object
    abbrev pub IsType : TypeRow → C → MetaType S C → Type 0
    IsType (row.Object head interfaces rows) check m =
        IsMadeOf (FieldMeans reads of_bool answer) object head rows.now interfaces.now m
    IsType (row.Interface head interfaces rows) check m =
        IsMadeOf (FieldMeans reads of_bool answer) interface head rows.now interfaces.now m
    IsType (row.Union head members) check m = IsMade NameMeans union_type head members.now m
    IsType (row.Enum head rows) check m =
        IsMade (ValueMeans reads of_bool answer) (enumeration check) head rows.now m
    IsType (row.InputObject head rows) check m =
        IsMade (ArgumentMeans reads of_bool) (input_object check) head rows.now m
    IsType (row.OneOf head rows) check m =
        IsMade (ArgumentMeans reads of_bool) (one_of check) head rows.now m

    abbrev pub IsTypeOf : CheckedRow C → MetaType S C → Type 0
    IsTypeOf it m = IsType it.row it.check m

  -- why there is no object or interface of this head, which lists these names, with these rows
  abbrev pub RefusesFields : Bor Bytes → List (Bor Bytes) → List (Bor Bytes) → RowFault → Type 0
  RefusesFields head listed rows e =
      (Refuses (RefusesField reads of_bool answer head.now) head rows e)
      ⊎ (RefusedAt RefusesName listed e)

  -- why a row is no type
  abbrev pub IsNoType : TypeRow → RowFault → Type 0
  IsNoType (row.Object head interfaces rows) e = RefusesFields head interfaces.now rows.now e
  IsNoType (row.Interface head interfaces rows) e = RefusesFields head interfaces.now rows.now e
  IsNoType (row.Union head members) e = Refuses RefusesName head members.now e
  IsNoType (row.Enum head rows) e =
      Refuses (RefusesValue reads of_bool answer head.now) head rows.now e
  IsNoType (row.InputObject head rows) e =
      Refuses (RefusesArgument reads of_bool head.now) head rows.now e
  IsNoType (row.OneOf head rows) e =
      Refuses (RefusesArgument reads of_bool head.now) head rows.now e

  -- the rows before this one are types, and it is refused
  pub record IsFirstRefused {C : Type 0} (rows : List (CheckedRow C)) (e : RowFault) : Type 0 where
    pub before : List (CheckedRow C)
    pub this : CheckedRow C
    pub after : List (CheckedRow C)
    pub is : rows ≡ before ++ this ∷ after
    pub types : List (MetaType S C)
    pub made : AllZip IsTypeOf before types
    pub refused : IsNoType this.row e
