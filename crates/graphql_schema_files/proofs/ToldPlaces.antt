-- Of which faults a place is told.
use Rattle.std.proofs.Common.{◌≡◌, ◌↔◌, true, List, Option, Some, None, Err, IsSome, is_some, get_or, ap, sym, refl, true≢false}
use Rattle.std.specs.List.{All, list_all}
use Rattle.std.proofs.lemmas.Bool.{and_from, and_parts}
use Rattle.std.proofs.lemmas.List.Sums.{AllPass-from_list_all, list_all-from_AllPass}
use Rattle.serde_json.specs.Data.{Data}
use Rattle.graphql_json.specs.Parts.{◌>>=◌}
use Rattle.graphql_lines.specs.Request.{data_of}
use Rattle.graphql_schema.specs.declared.meta.MetaType.{MetaType}
use Rattle.graphql_schema_files.specs.DeclarationPlaces.{IsPlaceAmong, IsPlaceIn, IsPlaceOf, IsTypePlace}
use Rattle.graphql_schema_files.specs.DraftedTypes.{S, TypeHasDefaults, TypeHasTypes}
use Rattle.graphql_schema_files.specs.Laws.{FaultsHavePlaces, ToldFaultsHavePlaces, UnfitDefaultsDoNotConform}
use Rattle.graphql_schema_files.specs.UnfitDefaults.{IsUnfitType}
use Rattle.graphql_schema_files.specs.NamedDrafts.{argument_is_named, field_is_named, is_name, type_is_named}
use Rattle.graphql_schema_files.specs.SchemaFiles.{HasDefaults, HasTypes, IsDue, IsNamed, ReadsData, ReadsShape, default_scalars}
use Rattle.graphql_schema_files.specs.Shapes.{schema_of}
use Rattle.graphql_schema_files.specs.SpelledTexts.{Value}
use Rattle.graphql_schema_files.specs.declared.declaration_place.DeclarationPlace.{DeclarationPlace}
use Rattle.graphql_schema_files.specs.declared.drafts.SchemaDraft.{SchemaDraft}
use Rattle.graphql_schema_files.specs.declared.drafts.FieldDraft.{FieldDraft}
use Rattle.graphql_schema_files.specs.declared.drafts.TypeDraft.{TypeDraft}
use Rattle.graphql_schema_files.specs.declared.rule.Rule.{Rule}
use Rattle.graphql_schema_files.specs.declared.rule.Rule.TheVariants as rule
use Rattle.graphql_schema_files.specs.declared.schema_file_error.SchemaFileError.{SchemaFileError}
use Rattle.graphql_schema_files.specs.declared.schema_file_error.SchemaFileError.TheVariants as fault
use Rattle.graphql_schema_files.proofs.FirstPlaces.{first_or_none}

-- ---- of each rule: no type gives a place exactly where the rule is kept

field_named : (draft : FieldDraft) → is_name draft.name ≡ true → All (λ a. argument_is_named a ≡ true) draft.arguments → field_is_named draft ≡ true
field_named draft name arguments = and_from (is_name draft.name) (list_all argument_is_named draft.arguments) name (list_all-from_AllPass argument_is_named draft.arguments arguments)

names_kept : (types : List TypeDraft) → IsPlaceAmong rule.Names types None → list_all type_is_named types ≡ true
names_kept types none = list_all-from_AllPass type_is_named types (λ k d inside.
    let draft = get_or types k d in
    let t = none k d inside in
    let fields : list_all field_is_named draft.fields ≡ true = list_all-from_AllPass field_is_named draft.fields (λ j f within. let kept = t.1 j f within in field_named (get_or draft.fields j f) kept.0 kept.1) in
    and_from (is_name draft.name) (list_all field_is_named draft.fields) t.0 fields)

names_told : (types : List TypeDraft) → list_all type_is_named types ≡ true → IsPlaceAmong rule.Names types None
names_told types named k d inside =
    let t = and_parts _ _ (AllPass-from_list_all type_is_named types named k d inside) in
    (t.0, λ j f within. let kept = and_parts _ _ (AllPass-from_list_all field_is_named _ t.1 j f within) in (kept.0, AllPass-from_list_all argument_is_named _ kept.1))

types_kept : (types : List TypeDraft) → IsPlaceAmong rule.Types types None → All TypeHasTypes types
types_kept types none k d inside = (none k d inside).1

types_told : (types : List TypeDraft) → All TypeHasTypes types → IsPlaceAmong rule.Types types None
types_told types has k d inside = (tt, has k d inside)

defaults_kept : (types : List TypeDraft) → IsPlaceAmong rule.Defaults types None → All TypeHasDefaults types
defaults_kept types none k d inside j f within = ((none k d inside).1 j f within).1

defaults_told : (types : List TypeDraft) → All TypeHasDefaults types → IsPlaceAmong rule.Defaults types None
defaults_told types has k d inside = (tt, λ j f within. (tt, has k d inside j f within))

-- ---- so a place is told exactly where the rule is not kept

found_where : (r : Rule) (types : List TypeDraft) (P : Type 0) → (IsPlaceAmong r types None → P) → (P → IsPlaceAmong r types None)
    → (found : Option DeclarationPlace) → IsPlaceAmong r types found → IsSome found ↔ (P → ⊥)
found_where r types P kept told None is = (λ some. absurd (true≢false (sym some)), λ broken. absurd (broken (kept is)))
found_where r types P kept told (Some place) is = (λ some p. first_or_none (IsTypePlace r) types place is (told p), λ broken. refl)

none_where : (found : Option DeclarationPlace) → found ≡ None → IsSome found ↔ ⊥
none_where None is = (λ some. absurd (true≢false (sym some)), λ never. absurd never)
none_where (Some place) is = absurd (true≢false cc)

pub faults_have_places : FaultsHavePlaces
faults_have_places fault.BadName file found is = found_where rule.Names file.types (IsNamed file) (names_kept file.types) (names_told file.types) found is
faults_have_places fault.BadTypeText file found is = found_where rule.Types file.types (HasTypes file) (types_kept file.types) (types_told file.types) found is
faults_have_places fault.BadDefault file found is = found_where rule.Defaults file.types (HasDefaults file) (defaults_kept file.types) (defaults_told file.types) found is
faults_have_places (fault.UnfitDefault place) file found is = (λ some. tt, λ told. ap is_some is)
faults_have_places fault.NotJson file found is = none_where found is
faults_have_places fault.BadShape file found is = none_where found is
faults_have_places (fault.Schema e) file found is = none_where found is
faults_have_places fault.Memory file found is = none_where found is

-- ---- what is told of a file

module _ {C : Type 0} (accepts : C → Value → Type 0) (builtin : List (MetaType S C)) (e : SchemaFileError) (found : Option DeclarationPlace)
    (is_told : (e ≡ fault.Memory → ⊥) × (e ≡ fault.NotJson → ⊥) × (e ≡ fault.BadShape → ⊥)) where
  -- a file of which another fault is told than want of memory, no JSON and a bad shape has been drafted
  of_shape : (o : Option SchemaDraft) → ReadsShape accepts builtin o (Err e) → IsPlaceOf e o found
      → (file : SchemaDraft) × (o ≡ Some file) × IsDue accepts builtin file e × IsPlaceIn e file found
  of_shape None read place = absurd (is_told.2 (read is_told.0))
  of_shape (Some file) read place = (file, refl, read is_told.0, place)

  of_data : (o : Option Data) → ReadsData accepts builtin o (Err e) → IsPlaceOf e (o >>= schema_of) found
      → (file : SchemaDraft) × (o >>= schema_of ≡ Some file) × IsDue accepts builtin file e × IsPlaceIn e file found
  of_data None read place = absurd (is_told.1 (read is_told.0))
  of_data (Some json) read place = of_shape (schema_of json) read place

pub told_faults_have_places : {C : Type 0} (accepts : C → Value → Type 0) → ToldFaultsHavePlaces accepts
told_faults_have_places accepts builtin bytes fault.BadName found read is place =
    let told = of_data accepts builtin fault.BadName found (λ is. cc, λ is. cc, λ is. cc) (data_of bytes) read place in
    (faults_have_places fault.BadName told.0 found told.3).1 told.2
told_faults_have_places accepts builtin bytes fault.BadTypeText found read is place =
    let told = of_data accepts builtin fault.BadTypeText found (λ is. cc, λ is. cc, λ is. cc) (data_of bytes) read place in
    (faults_have_places fault.BadTypeText told.0 found told.3).1 told.2.1
told_faults_have_places accepts builtin bytes fault.BadDefault found read is place =
    let told = of_data accepts builtin fault.BadDefault found (λ is. cc, λ is. cc, λ is. cc) (data_of bytes) read place in
    (faults_have_places fault.BadDefault told.0 found told.3).1 told.2.2
told_faults_have_places accepts builtin bytes (fault.UnfitDefault at) found read is place =
    let told = of_data accepts builtin (fault.UnfitDefault at) found (λ is. cc, λ is. cc, λ is. cc) (data_of bytes) read place in
    ap is_some told.3
told_faults_have_places accepts builtin bytes fault.NotJson found read is place = absurd is
told_faults_have_places accepts builtin bytes fault.BadShape found read is place = absurd is
told_faults_have_places accepts builtin bytes (fault.Schema e) found read is place = absurd is
told_faults_have_places accepts builtin bytes fault.Memory found read is place = absurd is

-- ---- a default of which it is told that it does not conform

pub unfit_defaults_do_not_conform : {C : Type 0} (accepts : C → Value → Type 0) → UnfitDefaultsDoNotConform accepts
unfit_defaults_do_not_conform accepts file schema (fault.UnfitDefault place) unfit conform = first_or_none (IsUnfitType (default_scalars accepts) schema.types) file.types place unfit conform
unfit_defaults_do_not_conform accepts file schema fault.NotJson unfit conform = unfit
unfit_defaults_do_not_conform accepts file schema fault.BadShape unfit conform = unfit
unfit_defaults_do_not_conform accepts file schema fault.BadName unfit conform = unfit
unfit_defaults_do_not_conform accepts file schema fault.BadTypeText unfit conform = unfit
unfit_defaults_do_not_conform accepts file schema fault.BadDefault unfit conform = unfit
unfit_defaults_do_not_conform accepts file schema (fault.Schema e) unfit conform = unfit
unfit_defaults_do_not_conform accepts file schema fault.Memory unfit conform = unfit
