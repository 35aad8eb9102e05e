-- Where declarations break a rule, as it is found.
use Rattle.std.proofs.Common.{◌≡◌, ◌↔◌, IsTrue, true, false, Bool, Option, Some, None, MatchOption, is_some, Err, ap, refl, sym, subst}
use Rattle.serde_json.specs.Data.{Data}
use Rattle.graphql_json.specs.Parts.{◌>>=◌}
use Rattle.graphql_names.specs.Names.{Bytes}
use Rattle.graphql_literal_checks.proofs.Decided.{fails, holds, refuted}
use Rattle.graphql_schema_files.specs.DeclarationPlaces.{ArgumentKeeps, FieldKeeps, IsArgumentPlace, IsFieldPlace, IsFirst, IsPlaceIn, IsPlaceOf, IsTypePlace, TypeKeeps}
use Rattle.graphql_schema_files.proofs.FirstPlaces.{first_or_none}
use Rattle.graphql_schema_files.specs.DraftedTypes.{DefaultMeans, IsDefault}
use Rattle.graphql_schema_files.specs.Outlines.{OutlinesData, OutlinesShape}
use Rattle.graphql_schema_files.specs.SpelledTexts.{FindsMeant, Value}
use Rattle.graphql_schema_files.specs.Shapes.{schema_of}
use Rattle.graphql_schema_files.specs.declared.drafts.ArgumentDraft.{ArgumentDraft}
use Rattle.graphql_schema_files.specs.declared.drafts.FieldDraft.{FieldDraft}
use Rattle.graphql_schema_files.specs.declared.drafts.TypeDraft.{TypeDraft}
use Rattle.graphql_schema_files.specs.declared.drafts.SchemaDraft.{SchemaDraft}
use Rattle.graphql_schema_files.specs.declared.declaration_place.DeclarationPlace.{DeclarationPlace}
use Rattle.graphql_schema_files.specs.declared.declaration_place.FieldPlace.{FieldPlace}
use Rattle.graphql_schema_files.specs.declared.rule.Rule.{Rule}
use Rattle.graphql_schema_files.specs.declared.schema_file_error.SchemaFileError.{SchemaFileError}
use Rattle.graphql_schema_files.specs.declared.schema_file_error.SchemaFileError.TheVariants as fault

-- a default that is found, and one that is not
default_found : (text : Option Bytes) (value : Option Value) → DefaultMeans text value → IsDefault text
default_found None None means = tt
default_found (Some text) (Some value) means = (value, means)
default_found None (Some value) means = absurd means
default_found (Some text) None means = absurd means

pub default_told : (text : Option Bytes) (found : Option (Option Value)) (told : Bool) → told ≡ is_some found → FindsMeant DefaultMeans IsDefault text found → IsTrue told ↔ IsDefault text
default_told text (Some value) told is finds = subst (λ b. IsTrue b ↔ IsDefault text) (sym is) (holds (default_found text value finds))
default_told text None told is finds = subst (λ b. IsTrue b ↔ IsDefault text) (sym is) (fails finds)

module _ (r : Rule) where
  pub argument_keeps_it : (draft : ArgumentDraft) (told : Bool) → told ≡ true → IsTrue told ↔ ArgumentKeeps r draft → IsArgumentPlace r draft None
  argument_keeps_it draft told is means = means.0 is

  pub argument_breaks_it : (draft : ArgumentDraft) (name : Bytes) (told : Bool) → told ≡ false → IsTrue told ↔ ArgumentKeeps r draft → name ≡ draft.name → IsArgumentPlace r draft (Some name)
  argument_breaks_it draft name told is means same = (refuted told is means, same)

  pub field_breaks_it : (draft : FieldDraft) (place : FieldPlace) (told : Bool) → told ≡ false → IsTrue told ↔ FieldKeeps r draft → place ≡ record { name = draft.name; argument = None } → IsFieldPlace r draft (Some place)
  field_breaks_it draft place told is means same = subst (λ p. IsFieldPlace r draft (Some p)) (sym same) (refl, refuted told is means)

  pub field_keeps_it : (draft : FieldDraft) (told : Bool) → told ≡ true → IsTrue told ↔ FieldKeeps r draft → IsFirst (IsArgumentPlace r) draft.arguments None → IsFieldPlace r draft None
  field_keeps_it draft told is means none = (means.0 is, none)

  pub argument_in_it : (draft : FieldDraft) (place : FieldPlace) (argument : Bytes) (told : Bool) → told ≡ true → IsTrue told ↔ FieldKeeps r draft
      → IsFirst (IsArgumentPlace r) draft.arguments (Some argument) → place ≡ record { name = draft.name; argument = Some argument } → IsFieldPlace r draft (Some place)
  argument_in_it draft place argument told is means first same = subst (λ p. IsFieldPlace r draft (Some p)) (sym same) (refl, (means.0 is, first))

  pub type_breaks_it : (draft : TypeDraft) (place : DeclarationPlace) (told : Bool) → told ≡ false → IsTrue told ↔ TypeKeeps r draft → place ≡ record { type_name = draft.name; field = None } → IsTypePlace r draft (Some place)
  type_breaks_it draft place told is means same = subst (λ p. IsTypePlace r draft (Some p)) (sym same) (refl, refuted told is means)

  pub type_keeps_it : (draft : TypeDraft) (told : Bool) → told ≡ true → IsTrue told ↔ TypeKeeps r draft → IsFirst (IsFieldPlace r) draft.fields None → IsTypePlace r draft None
  type_keeps_it draft told is means none = (means.0 is, none)

  pub field_in_it : (draft : TypeDraft) (place : DeclarationPlace) (field : FieldPlace) (told : Bool) → told ≡ true → IsTrue told ↔ TypeKeeps r draft
      → IsFirst (IsFieldPlace r) draft.fields (Some field) → place ≡ record { type_name = draft.name; field = Some field } → IsTypePlace r draft (Some place)
  field_in_it draft place field told is means first same = subst (λ p. IsTypePlace r draft (Some p)) (sym same) (refl, (means.0 is, first))

-- what gives a place does not give none
pub field_or_none : (r : Rule) (draft : FieldDraft) (place : FieldPlace) → IsFieldPlace r draft (Some place) → IsFieldPlace r draft None → ⊥
field_or_none r draft place gives none = at place.argument gives.1
  where
    at : (argument : Option Bytes) → MatchOption argument (FieldKeeps r draft → ⊥) (λ a. FieldKeeps r draft × IsFirst (IsArgumentPlace r) draft.arguments (Some a)) → ⊥
    at None breaks = breaks none.0
    at (Some a) keeps = first_or_none (IsArgumentPlace r) draft.arguments a keeps.1 none.1

pub type_or_none : (r : Rule) (draft : TypeDraft) (place : DeclarationPlace) → IsTypePlace r draft (Some place) → IsTypePlace r draft None → ⊥
type_or_none r draft place gives none = at place.field gives.1
  where
    at : (field : Option FieldPlace) → MatchOption field (TypeKeeps r draft → ⊥) (λ f. TypeKeeps r draft × IsFirst (IsFieldPlace r) draft.fields (Some f)) → ⊥
    at None breaks = breaks none.0
    at (Some f) keeps = first_or_none (IsFieldPlace r) draft.fields f keeps.1 none.1

pub ruleset argument_steps = (argument_keeps_it, argument_breaks_it)

pub ruleset field_steps = (field_breaks_it, field_keeps_it, argument_in_it)

pub ruleset type_steps = (type_breaks_it, type_keeps_it, field_in_it)

-- faults that stand at no declaration
pub rest_placed : (e : SchemaFileError) (file : SchemaDraft) → (e ≡ fault.BadName → ⊥) → (e ≡ fault.BadTypeText → ⊥) → (e ≡ fault.BadDefault → ⊥) → ((place : DeclarationPlace) → e ≡ fault.UnfitDefault place → ⊥)
    → IsPlaceIn e file None
rest_placed fault.BadName file a b c d = absurd (a refl)
rest_placed fault.BadTypeText file a b c d = absurd (b refl)
rest_placed fault.BadDefault file a b c d = absurd (c refl)
rest_placed (fault.UnfitDefault place) file a b c d = absurd (d place refl)
rest_placed fault.NotJson file a b c d = refl
rest_placed fault.BadShape file a b c d = refl
rest_placed (fault.Schema e) file a b c d = refl
rest_placed fault.Memory file a b c d = refl

-- the place that is told with the fault
pub told_place : (e : SchemaFileError) (file : SchemaDraft) (place copy : DeclarationPlace) → e ≡ fault.UnfitDefault place → copy ≡ place → IsPlaceIn e file (Some copy)
told_place e file place copy is same = subst (λ f. IsPlaceIn f file (Some copy)) (sym is) (ap Some same)

pub ruleset fault_steps = (rest_placed, told_place)

-- bytes that are no JSON have no declaration, and no outline
pub not_parsed : (e : SchemaFileError) (o : Option Data) → o ≡ None → IsPlaceOf e (o >>= schema_of) None
not_parsed e o none = subst (λ found. IsPlaceOf e (found >>= schema_of) None) (sym none) refl

pub outline_refused : (o : Option Data) (e : SchemaFileError) → ((e ≡ fault.Memory → ⊥) → (e ≡ fault.NotJson) × (o ≡ None)) → OutlinesData o (Err e)
outline_refused None e told = λ other. (told other).0
outline_refused (Some json) e told = shape (schema_of json)
  where
    never : (e ≡ fault.Memory → ⊥) → ⊥
    never other = let h = (told other).1 in cc

    shape : (o : Option SchemaDraft) → OutlinesShape o (Err e)
    shape None = λ other. absurd (never other)
    shape (Some file) = λ other. absurd (never other)
