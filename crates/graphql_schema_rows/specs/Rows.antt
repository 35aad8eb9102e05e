-- What rows of text are (GraphQL October 2021, 2.1.9 Names, 3.2 Descriptions, 3.6 Objects, 3.9
-- Enums, 3.10 Input Objects), and why one is refused.
use Rattle.std.specs.Prelude.{◌≡◌, ◌≢◌, ◌⊎◌, Bool, List, Result, Ok, Err}
use Rattle.std.specs.Borrow.{Bor}
use Rattle.std.specs.List.{Contains}
use Rattle.std.specs.Str.{chars}
use Rattle.graphql_names.specs.Names.{Bytes}
use Rattle.graphql_text.specs.Grammar.{IsName}
use Rattle.graphql_scalars.specs.DefaultScalar as default
use Rattle.graphql_scalars.specs.ScalarAnswers.{ScalarAnswer}
use Rattle.graphql_scalars.specs.declared.default_scalar.DefaultScalarValue.{DefaultScalarValue}
use Rattle.graphql_grammar.specs.Faults.{Reading}
use Rattle.graphql_grammar.specs.Input.{Fault}
use Rattle.graphql_grammar.specs.Relations.{Rel}
use Rattle.graphql_schema.specs.declared.meta.argument.Argument.{Argument}
use Rattle.graphql_schema.specs.declared.meta.enum_value.EnumValue.{EnumValue}
use Rattle.graphql_schema.specs.declared.meta.field.Field.{Field}
use Rattle.graphql_schema_rows.specs.Definitions.{Arguments, Fields, Heads, Values}
use Rattle.graphql_schema_rows.specs.Heads.{name_part}
use Rattle.graphql_schema_rows.specs.Notes.{told_argument, told_field, told_head, told_value}
use Rattle.graphql_schema_rows.specs.Texts.{IsRefused, IsText}
use Rattle.graphql_schema_rows.specs.declared.head.Head.{Head}
use Rattle.graphql_schema_rows.specs.declared.note_fault.NoteFault.{NoteFault}
use Rattle.graphql_schema_rows.specs.declared.row_fault.RowFault.{RowFault}
use Rattle.graphql_schema_rows.specs.declared.row_fault.RowFault.TheVariants as fault

abbrev pub IsMemory : RowFault → Type 0
IsMemory e = e ≡ fault.Memory

-- one of the rows is refused so
abbrev pub RefusedAt : (Bor Bytes → RowFault → Type 0) → List (Bor Bytes) → RowFault → Type 0
RefusedAt Refuses rows e = (row : Bor Bytes) × Contains rows row × Refuses row e

-- ---- names

abbrev pub NameMeans : Bor Bytes → Bytes → Type 0
NameMeans text name = IsName (chars text.now) × (name ≡ text.now)

-- it is no name, and the refusal has it
abbrev pub RefusesName : Bor Bytes → RowFault → Type 0
RefusesName text e = (IsName (chars text.now) → ⊥) × (e ≡ fault.BadName text.now)

-- ---- definitions, by what scalars mean, and by what a definition tells

module _ {S D A : Type 0} (reads : Reading S) (Trees : Reading S → Rel D)
    (told : D → Result A NoteFault) where
  -- the row's tokens spell a definition that tells this
  pub record Defines (row : Bor Bytes) (x : A) : Type 0 where
    pub definition : D
    pub spells : IsText reads Trees (chars row.now) definition
    pub tells : told definition ≡ Ok x

  -- the row of a head spells none, and this is its first fault
  pub record SpellsNone (head : Bytes) (row : Bor Bytes) (e : RowFault) : Type 0 where
    pub at : Fault
    pub refused : IsRefused reads Trees (chars row.now) at
    pub is : e ≡ fault.BadRow (name_part head) row.now at

  -- it spells one that can't tell of itself what it tells
  pub record TellsNone (head : Bytes) (row : Bor Bytes) (e : RowFault) : Type 0 where
    pub definition : D
    pub why : NoteFault
    pub spells : IsText reads Trees (chars row.now) definition
    pub tells : told definition ≡ Err why
    pub is : e ≡ fault.BadNote (name_part head) row.now why

  abbrev pub RefusesRow : Bytes → Bor Bytes → RowFault → Type 0
  RefusesRow head row e = (SpellsNone head row e) ⊎ (TellsNone head row e)

module _ {S : Type 0} (reads : Reading S) (of_bool : Bool → S) where
  abbrev pub ArgumentMeans : Bor Bytes → Argument S → Type 0
  ArgumentMeans = Defines reads (Arguments S of_bool) told_argument

  abbrev pub RefusesArgument : Bytes → Bor Bytes → RowFault → Type 0
  RefusesArgument = RefusesRow reads (Arguments S of_bool) told_argument

  module _ (answer : S → ScalarAnswer) where
    abbrev pub FieldMeans : Bor Bytes → Field S → Type 0
    FieldMeans = Defines reads (Fields S of_bool) (told_field answer)

    abbrev pub RefusesField : Bytes → Bor Bytes → RowFault → Type 0
    RefusesField = RefusesRow reads (Fields S of_bool) (told_field answer)

    abbrev pub ValueMeans : Bor Bytes → EnumValue → Type 0
    ValueMeans = Defines reads (Values S of_bool) (told_value answer)

    abbrev pub RefusesValue : Bytes → Bor Bytes → RowFault → Type 0
    RefusesValue = RefusesRow reads (Values S of_bool) (told_value answer)

-- ---- the heads of types

-- the tokens of a head spell its name and what is told of it
abbrev pub HeadDefines : Bor Bytes → Head → Type 0
HeadDefines = Defines {S = DefaultScalarValue} default.reads (Heads DefaultScalarValue) told_head

-- and the name ends it
pub record HeadMeans (head : Bor Bytes) (h : Head) : Type 0 where
  pub named : IsName (chars (name_part head.now))
  pub defined : HeadDefines head h
  pub is : h.name ≡ name_part head.now

-- what ends it is no name, or its tokens spell no head, or one whose name does not end it
abbrev pub RefusesHead : Bor Bytes → RowFault → Type 0
RefusesHead head e =
    ((IsName (chars (name_part head.now)) → ⊥) × (e ≡ fault.BadName (name_part head.now)))
    ⊎ (RefusesRow {S = DefaultScalarValue} default.reads (Heads DefaultScalarValue) told_head
    head.now head e)
    ⊎ ((h : Head) × HeadDefines head h × (h.name ≢ name_part head.now) × (e ≡ fault.BadName h.name))
