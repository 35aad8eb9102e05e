-- The metadata that drafts describe (GraphQL October 2021, 3.6 Objects, 3.7 Interfaces, 3.8
-- Unions), and whether their texts are right.
use Rattle.std.specs.Prelude.{◌≡◌, ◌++◌, Bool, true, false, List, Option, Some, None, MatchOption}
use Rattle.std.specs.List.{All, AllZip}
use Rattle.graphql_names.specs.Names.{Bytes}
use Rattle.graphql_scalars.specs.declared.default_scalar.DefaultScalarValue.{DefaultScalarValue}
use Rattle.graphql_schema.specs.declared.meta.argument.Argument.{Argument}
use Rattle.graphql_schema.specs.declared.meta.deprecation.DeprecationStatus.TheVariants as status
use Rattle.graphql_schema.specs.declared.meta.field.Field.{Field}
use Rattle.graphql_schema.specs.declared.meta.MetaType.{MetaType}
use Rattle.graphql_schema.specs.declared.meta.MetaType.TheVariants as meta
use Rattle.graphql_schema_files.specs.declared.drafts.ArgumentDraft.{ArgumentDraft}
use Rattle.graphql_schema_files.specs.declared.drafts.FieldDraft.{FieldDraft}
use Rattle.graphql_schema_files.specs.declared.drafts.DraftKind.{DraftKind}
use Rattle.graphql_schema_files.specs.declared.drafts.DraftKind.TheVariants as kind
use Rattle.graphql_schema_files.specs.declared.drafts.TypeDraft.{TypeDraft}
use Rattle.graphql_schema_files.specs.SpelledTexts.{HasLiteral, HasType, IsLiteral, IsType, Value}

-- the default scalars
abbrev pub S : Type 0
S = DefaultScalarValue

-- ---- whether the texts are right

abbrev pub ArgumentHasType : ArgumentDraft → Type 0
ArgumentHasType draft = HasType draft.type_text

-- the types of a field and its arguments are type references
abbrev pub FieldHasTypes : FieldDraft → Type 0
FieldHasTypes draft = HasType draft.type_text × All ArgumentHasType draft.arguments

abbrev pub TypeHasTypes : TypeDraft → Type 0
TypeHasTypes draft = All FieldHasTypes draft.fields

-- a default, where there is one, is a constant literal
abbrev pub IsDefault : Option Bytes → Type 0
IsDefault text = MatchOption text (Unit {0}) HasLiteral

abbrev pub ArgumentHasDefault : ArgumentDraft → Type 0
ArgumentHasDefault draft = IsDefault draft.default_text

abbrev pub FieldHasDefaults : FieldDraft → Type 0
FieldHasDefaults draft = All ArgumentHasDefault draft.arguments

abbrev pub TypeHasDefaults : TypeDraft → Type 0
TypeHasDefaults draft = All FieldHasDefaults draft.fields

-- both
abbrev pub ArgumentIsSound : ArgumentDraft → Type 0
ArgumentIsSound draft = ArgumentHasType draft × ArgumentHasDefault draft

abbrev pub FieldIsSound : FieldDraft → Type 0
FieldIsSound draft = FieldHasTypes draft × FieldHasDefaults draft

abbrev pub TypeIsSound : TypeDraft → Type 0
TypeIsSound draft = TypeHasTypes draft × TypeHasDefaults draft

-- ---- what drafts describe

abbrev pub DefaultMeans : Option Bytes → Option Value → Type 0
DefaultMeans None None = Unit {0}
DefaultMeans (Some text) (Some value) = IsLiteral text value
DefaultMeans (Some text) None = ⊥
DefaultMeans None (Some value) = ⊥

-- an argument: its name, the type and the default that its texts spell
pub record ArgumentMeans (draft : ArgumentDraft) (m : Argument S) : Type 0 where
  pub name : m.name ≡ draft.name
  pub description : m.description ≡ None
  pub arg_type : IsType draft.type_text m.arg_type
  pub default_value : DefaultMeans draft.default_text m.default_value

-- a field: its name, the type that its text spells, its arguments
pub record FieldMeans (draft : FieldDraft) (m : Field S) : Type 0 where
  pub name : m.name ≡ draft.name
  pub description : m.description ≡ None
  pub arguments : MatchOption m.arguments ⊥ (AllZip ArgumentMeans draft.arguments)
  pub field_type : IsType draft.type_text m.field_type
  pub deprecation_status : m.deprecation_status ≡ status.Current

module _ {C : Type 0} where
  -- an object or an interface with these fields lists its interfaces, and a union its members
  abbrev pub type_of_kind : DraftKind → Bytes → List (Field S) → List Bytes → MetaType S C
  type_of_kind kind.Object name fields listed = meta.Object
      (record { name = name; description = None; fields = fields; interface_names = listed })
  type_of_kind kind.Interface name fields listed = meta.Interface
      (record { name = name; description = None; fields = fields; interface_names = listed })
  type_of_kind kind.Union name fields listed =
      meta.Union (record { name = name; description = None; of_type_names = listed })

  -- a type: its name, the fields that its drafts describe, what it lists
  pub record TypeMeans (draft : TypeDraft) (m : MetaType S C) : Type 0 where
    pub fields : List (Field S)
    pub described : AllZip FieldMeans draft.fields fields
    pub is : m ≡ type_of_kind draft.kind draft.name fields draft.listed

  -- the types that drafts describe come behind those that are there; or some text is not right, and
  -- nothing comes
  abbrev pub AddsTypes : List TypeDraft → List (MetaType S C) → List (MetaType S C) → Bool → Type 0
  AddsTypes drafts old new true =
      (declared : List (MetaType S C)) × AllZip TypeMeans drafts declared × (new ≡ old ++ declared)
  AddsTypes drafts old new false = (All TypeIsSound drafts → ⊥) × (new ≡ old)
