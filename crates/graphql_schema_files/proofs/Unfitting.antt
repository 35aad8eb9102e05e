-- Which default does not conform, as it is found.
use Rattle.std.proofs.Common.{◌≡◌, List, Option, Some, None, IfSome, MatchOption, refl, sym, subst}
use Rattle.std.proofs.lemmas.Option.{MatchOption-at_none, MatchOption-at_some}
use Rattle.graphql_literal_checks.specs.Conforms.{Conforms}
use Rattle.graphql_literal_checks.specs.declared.source.Source.TheVariants.{Literal}
use Rattle.graphql_names.specs.Names.{Bytes}
use Rattle.graphql_schema.specs.Scalars.{Scalars}
use Rattle.graphql_schema.specs.Lookups.{type_named}
use Rattle.graphql_schema.specs.Types.{arguments_of, fields_of, input_fields_of}
use Rattle.graphql_schema.specs.declared.meta.argument.Argument.{Argument}
use Rattle.graphql_schema.specs.declared.meta.field.Field.{Field}
use Rattle.graphql_schema.specs.declared.meta.MetaType.{MetaType}
use Rattle.graphql_values.specs.declared.input_value.InputValue.{InputValue}
use Rattle.graphql_schema_files.specs.FirstItems.{IsFirst}
use Rattle.graphql_schema_files.specs.UnfitDefaults.{IsUnfitArgument, IsUnfitField, IsUnfitMeta, IsUnfitType}
use Rattle.graphql_schema_files.specs.declared.declaration_place.DeclarationPlace.{DeclarationPlace}
use Rattle.graphql_schema_files.specs.declared.declaration_place.FieldPlace.{FieldPlace}
use Rattle.graphql_schema_files.specs.declared.drafts.TypeDraft.{TypeDraft}
use Rattle.graphql_schema_files.proofs.FirstPlaces.{first_or_none}

module _ {S C : Type 0} (scalars : Scalars S C) (types : List (MetaType S C)) where
  abbrev Fits : Argument S → InputValue S → Type 0
  Fits argument = Conforms scalars types Literal argument.arg_type

  pub no_default : (argument : Argument S) → argument.default_value ≡ None → IsUnfitArgument scalars types argument None
  no_default argument is = subst (λ o. IfSome o (Fits argument)) (sym is) tt

  pub default_fits : (argument : Argument S) (value : InputValue S) (reason : Option Bytes) → argument.default_value ≡ Some value → reason ≡ None
      → MatchOption reason (Fits argument value) (λ _. Fits argument value → ⊥) → IsUnfitArgument scalars types argument None
  default_fits argument value reason is none told = subst (λ o. IfSome o (Fits argument)) (sym is) (MatchOption-at_none (Fits argument value) (λ _. Fits argument value → ⊥) none told)

  pub default_unfit : (argument : Argument S) (value : InputValue S) (reason : Option Bytes) (text name : Bytes) → argument.default_value ≡ Some value → reason ≡ Some text
      → MatchOption reason (Fits argument value) (λ _. Fits argument value → ⊥) → name ≡ argument.name → IsUnfitArgument scalars types argument (Some name)
  default_unfit argument value reason text name is some told same =
      let unfit = MatchOption-at_some (Fits argument value) (λ _. Fits argument value → ⊥) text some told in
      (subst (λ o. IfSome o (Fits argument) → ⊥) (sym is) unfit, same)

  -- the field of an argument
  pub field_unfit : (field : Field S) (argument : Bytes) (place : FieldPlace) → IsFirst (IsUnfitArgument scalars types) (arguments_of field) (Some argument)
      → place ≡ record { name = field.name; argument = Some argument } → IsUnfitField scalars types field (Some place)
  field_unfit field argument place first is = subst (λ p. IsUnfitField scalars types field (Some p)) (sym is) (refl, first)

  pub field_fits : (field : Field S) → IsFirst (IsUnfitArgument scalars types) (arguments_of field) None → IsUnfitField scalars types field None
  field_fits field none = none

  pub meta_fits : (m : MetaType S C) → IsFirst (IsUnfitField scalars types) (fields_of m) None → IsFirst (IsUnfitArgument scalars types) (input_fields_of m) None → IsUnfitMeta scalars types m None
  meta_fits m fields inputs = (fields, inputs)

  -- a field, an input field, and neither
  pub meta_unfit : (m : MetaType S C) (place : FieldPlace) → IsFirst (IsUnfitField scalars types) (fields_of m) (Some place) → IsUnfitMeta scalars types m (Some place)
  meta_unfit m place first = at place.argument refl
    where
      at : (argument : Option Bytes) → place.argument ≡ argument
          → MatchOption argument (IsFirst (IsUnfitArgument scalars types) (input_fields_of m) (Some place.name)) (λ a. IsFirst (IsUnfitField scalars types) (fields_of m) (Some place))
      at None is = absurd (subst (λ o. MatchOption o ⊥ (λ a. IsFirst (IsUnfitArgument scalars types) (arguments_of first.0) (Some a))) is first.2.1)
      at (Some a) is = first

  pub input_unfit : (m : MetaType S C) (name : Bytes) (place : FieldPlace) → IsFirst (IsUnfitArgument scalars types) (input_fields_of m) (Some name) → place ≡ record { name = name; argument = None }
      → IsUnfitMeta scalars types m (Some place)
  input_unfit m name place first is = subst (λ p. IsUnfitMeta scalars types m (Some p)) (sym is) first

  -- the type of a field
  pub type_unfit : (draft : TypeDraft) (m : MetaType S C) (field : FieldPlace) (place : DeclarationPlace) → type_named types draft.name ≡ Some m → IsUnfitMeta scalars types m (Some field)
      → place ≡ record { type_name = draft.name; field = Some field } → IsUnfitType scalars types draft (Some place)
  type_unfit draft m field place found unfit is =
      subst (λ p. IsUnfitType scalars types draft (Some p)) (sym is) (refl, subst (λ o. MatchOption o ⊥ (λ m. IsUnfitMeta scalars types m (Some field))) (sym found) unfit)

  pub type_fits : (draft : TypeDraft) (m : MetaType S C) → type_named types draft.name ≡ Some m → IsUnfitMeta scalars types m None → IsUnfitType scalars types draft None
  type_fits draft m found fits = subst (λ o. IfSome o (λ m. IsUnfitMeta scalars types m None)) (sym found) fits

  pub no_type : (draft : TypeDraft) → type_named types draft.name ≡ None → IsUnfitType scalars types draft None
  no_type draft found = subst (λ o. IfSome o (λ m. IsUnfitMeta scalars types m None)) (sym found) tt

  -- what gives a place does not give none
  pub field_or_none : (field : Field S) (place : FieldPlace) → IsUnfitField scalars types field (Some place) → IsUnfitField scalars types field None → ⊥
  field_or_none field place gives none = at place.argument gives.1
    where
      at : (argument : Option Bytes) → MatchOption argument ⊥ (λ a. IsFirst (IsUnfitArgument scalars types) (arguments_of field) (Some a)) → ⊥
      at None never = never
      at (Some a) first = first_or_none (IsUnfitArgument scalars types) (arguments_of field) a first none

  meta_or_none : (m : MetaType S C) (place : FieldPlace) → IsUnfitMeta scalars types m (Some place) → IsUnfitMeta scalars types m None → ⊥
  meta_or_none m place gives none = at place.argument gives
    where
      at : (argument : Option Bytes) → MatchOption argument (IsFirst (IsUnfitArgument scalars types) (input_fields_of m) (Some place.name)) (λ a. IsFirst (IsUnfitField scalars types) (fields_of m) (Some place)) → ⊥
      at None first = first_or_none (IsUnfitArgument scalars types) (input_fields_of m) place.name first none.1
      at (Some a) first = first_or_none (IsUnfitField scalars types) (fields_of m) place first none.0

  pub type_or_none : (draft : TypeDraft) (place : DeclarationPlace) → IsUnfitType scalars types draft (Some place) → IsUnfitType scalars types draft None → ⊥
  type_or_none draft place gives none = at (type_named types draft.name) gives.1 none
    where
      in_meta : (m : MetaType S C) (field : Option FieldPlace) → MatchOption field ⊥ (λ f. IsUnfitMeta scalars types m (Some f)) → IsUnfitMeta scalars types m None → ⊥
      in_meta m None never none = never
      in_meta m (Some f) unfit none = meta_or_none m f unfit none

      at : (o : Option (MetaType S C)) → MatchOption o ⊥ (λ m. MatchOption place.field ⊥ (λ f. IsUnfitMeta scalars types m (Some f))) → IfSome o (λ m. IsUnfitMeta scalars types m None) → ⊥
      at None never none = never
      at (Some m) unfit none = in_meta m place.field unfit none

pub ruleset argument_steps = (no_default, default_fits, default_unfit)

pub ruleset field_steps = (field_unfit, field_fits)

pub ruleset meta_steps = (meta_unfit, input_unfit, meta_fits)

pub ruleset type_steps = (type_unfit, type_fits, no_type)
