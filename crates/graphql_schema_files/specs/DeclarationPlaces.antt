-- Where in a file of a schema its declarations break a rule.
use Rattle.std.specs.Prelude.{◌≡◌, true, List, Option, Some, None, MatchOption}
use Rattle.graphql_json.specs.Parts.{◌>>=◌}
use Rattle.graphql_lines.specs.Request.{data_of}
use Rattle.graphql_names.specs.Names.{Bytes}
pub use Rattle.graphql_schema_files.specs.FirstItems.{IsFirst}
use Rattle.graphql_schema_files.specs.NamedDrafts.{is_name}
use Rattle.graphql_schema_files.specs.DraftedTypes.{ArgumentHasDefault, ArgumentHasType}
use Rattle.graphql_schema_files.specs.SpelledTexts.{HasType}
use Rattle.graphql_schema_files.specs.declared.drafts.ArgumentDraft.{ArgumentDraft}
use Rattle.graphql_schema_files.specs.declared.drafts.FieldDraft.{FieldDraft}
use Rattle.graphql_schema_files.specs.declared.drafts.TypeDraft.{TypeDraft}
use Rattle.graphql_schema_files.specs.declared.drafts.SchemaDraft.{SchemaDraft}
use Rattle.graphql_schema_files.specs.Shapes.{schema_of}
use Rattle.graphql_schema_files.specs.declared.schema_file_error.SchemaFileError.{SchemaFileError}
use Rattle.graphql_schema_files.specs.declared.schema_file_error.SchemaFileError.TheVariants as
    fault
use Rattle.graphql_schema_files.specs.declared.declaration_place.DeclarationPlace.{DeclarationPlace}
use Rattle.graphql_schema_files.specs.declared.declaration_place.FieldPlace.{FieldPlace}
use Rattle.graphql_schema_files.specs.declared.rule.Rule.{Rule}
use Rattle.graphql_schema_files.specs.declared.rule.Rule.TheVariants as rule

abbrev pub ArgumentKeeps : Rule → ArgumentDraft → Type 0
ArgumentKeeps rule.Names draft = is_name draft.name ≡ true
ArgumentKeeps rule.Types draft = ArgumentHasType draft
ArgumentKeeps rule.Defaults draft = ArgumentHasDefault draft

-- a field keeps the rule, its arguments aside
abbrev pub FieldKeeps : Rule → FieldDraft → Type 0
FieldKeeps rule.Names draft = is_name draft.name ≡ true
FieldKeeps rule.Types draft = HasType draft.type_text
FieldKeeps rule.Defaults draft = Unit {0}

-- a type keeps the rule, its fields aside
abbrev pub TypeKeeps : Rule → TypeDraft → Type 0
TypeKeeps rule.Names draft = is_name draft.name ≡ true
TypeKeeps rule.Types draft = Unit {0}
TypeKeeps rule.Defaults draft = Unit {0}

module _ (r : Rule) where
  -- the argument itself
  abbrev pub IsArgumentPlace : ArgumentDraft → Option Bytes → Type 0
  IsArgumentPlace draft None = ArgumentKeeps r draft
  IsArgumentPlace draft (Some name) = (ArgumentKeeps r draft → ⊥) × (name ≡ draft.name)

  -- the field itself, or else the first argument that breaks the rule
  abbrev pub IsFieldPlace : FieldDraft → Option FieldPlace → Type 0
  IsFieldPlace draft None = FieldKeeps r draft × IsFirst IsArgumentPlace draft.arguments None
  IsFieldPlace draft (Some place) =
      (place.name ≡ draft.name)
      × MatchOption place.argument (FieldKeeps r draft → ⊥)
      (λ argument. FieldKeeps r draft × IsFirst IsArgumentPlace draft.arguments (Some argument))

  -- the type itself, or else the first field in which something does
  abbrev pub IsTypePlace : TypeDraft → Option DeclarationPlace → Type 0
  IsTypePlace draft None = TypeKeeps r draft × IsFirst IsFieldPlace draft.fields None
  IsTypePlace draft (Some place) =
      (place.type_name ≡ draft.name)
      × MatchOption place.field (TypeKeeps r draft → ⊥)
      (λ field. TypeKeeps r draft × IsFirst IsFieldPlace draft.fields (Some field))

  -- the first type in which something does
  abbrev pub IsPlaceAmong : List TypeDraft → Option DeclarationPlace → Type 0
  IsPlaceAmong = IsFirst IsTypePlace

-- where a fault stands of a file that has the shape of one; some have a place of their own, or stand
-- at no declaration
abbrev pub IsPlaceIn : SchemaFileError → SchemaDraft → Option DeclarationPlace → Type 0
IsPlaceIn fault.BadName file found = IsPlaceAmong rule.Names file.types found
IsPlaceIn fault.BadTypeText file found = IsPlaceAmong rule.Types file.types found
IsPlaceIn fault.BadDefault file found = IsPlaceAmong rule.Defaults file.types found
IsPlaceIn (fault.UnfitDefault place) file found = found ≡ Some place
IsPlaceIn _ file found = found ≡ None

-- and of one that may have none: its faults stand at no declaration
abbrev pub IsPlaceOf : SchemaFileError → Option SchemaDraft → Option DeclarationPlace → Type 0
IsPlaceOf e None found = found ≡ None
IsPlaceOf e (Some file) found = IsPlaceIn e file found

-- where a fault stands of the file of these bytes
abbrev pub IsPlace : SchemaFileError → Bytes → Option DeclarationPlace → Type 0
IsPlace e bytes found = IsPlaceOf e (data_of bytes >>= schema_of) found
