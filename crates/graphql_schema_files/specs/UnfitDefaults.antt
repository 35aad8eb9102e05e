-- Which default of a file does not conform to the type of its argument (GraphQL October 2021, 5.6.1
-- Values of Correct Type): the first, in the order of the file.
use Rattle.std.specs.Prelude.{◌≡◌, List, Option, Some, None, IfSome, MatchOption}
use Rattle.graphql_literal_checks.specs.Defaults.{ArgumentConforms}
use Rattle.graphql_names.specs.Names.{Bytes}
use Rattle.graphql_schema.specs.Scalars.{Scalars}
use Rattle.graphql_schema.specs.Lookups.{type_named}
use Rattle.graphql_schema.specs.Types.{arguments_of, fields_of, input_fields_of}
use Rattle.graphql_schema.specs.declared.meta.argument.Argument.{Argument}
use Rattle.graphql_schema.specs.declared.meta.field.Field.{Field}
use Rattle.graphql_schema.specs.declared.meta.MetaType.{MetaType}
use Rattle.graphql_schema_files.specs.FirstItems.{IsFirst}
use Rattle.graphql_schema_files.specs.declared.declaration_place.DeclarationPlace.{DeclarationPlace}
use Rattle.graphql_schema_files.specs.declared.declaration_place.FieldPlace.{FieldPlace}
use Rattle.graphql_schema_files.specs.declared.drafts.TypeDraft.{TypeDraft}

-- by what scalars mean, and the types of a schema
module _ {S C : Type 0} (scalars : Scalars S C) (types : List (MetaType S C)) where
  -- the argument or the input field itself
  abbrev pub IsUnfitArgument : Argument S → Option Bytes → Type 0
  IsUnfitArgument argument None = ArgumentConforms scalars types argument
  IsUnfitArgument argument (Some name) =
      (ArgumentConforms scalars types argument → ⊥) × (name ≡ argument.name)

  -- the field, by its first such argument
  abbrev pub IsUnfitField : Field S → Option FieldPlace → Type 0
  IsUnfitField field None = IsFirst IsUnfitArgument (arguments_of field) None
  IsUnfitField field (Some place) =
      (place.name ≡ field.name)
      × MatchOption place.argument ⊥
      (λ argument. IsFirst IsUnfitArgument (arguments_of field) (Some argument))

  -- the first such field of the type, or the first such input field
  abbrev pub IsUnfitMeta : MetaType S C → Option FieldPlace → Type 0
  IsUnfitMeta m None =
      IsFirst IsUnfitField (fields_of m) None × IsFirst IsUnfitArgument (input_fields_of m) None
  IsUnfitMeta m (Some place) =
      MatchOption place.argument (IsFirst IsUnfitArgument (input_fields_of m) (Some place.name))
      (λ argument. IsFirst IsUnfitField (fields_of m) (Some place))

  -- that of the type which the draft declares, as the schema holds it
  abbrev pub IsUnfitType : TypeDraft → Option DeclarationPlace → Type 0
  IsUnfitType draft None = IfSome (type_named types draft.name) (λ m. IsUnfitMeta m None)
  IsUnfitType draft (Some place) =
      (place.type_name ≡ draft.name)
      × MatchOption (type_named types draft.name) ⊥
      (λ m. MatchOption place.field ⊥ (λ field. IsUnfitMeta m (Some field)))
