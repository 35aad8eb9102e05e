-- The outline of a file, step by step.
use Rattle.std.proofs.Common.{◌≡◌, ◌++◌, Bool, true, false, List, Ok, Err, sym, subst, refl}
use Rattle.std.specs.List.{All, AllZip}
use Rattle.graphql_text.specs.Memory.{UnlessMemory}
use Rattle.graphql_scalars.specs.declared.default_scalar.DefaultScalarValue.TheVariants as scalar
use Rattle.graphql_schema.specs.Schemas.{Makes}
use Rattle.graphql_schema.specs.Completed.{completed}
use Rattle.graphql_schema.specs.Faults.{Roots, TellsFirst}
use Rattle.graphql_schema.specs.declared.error.SchemaError.{SchemaError}
use Rattle.graphql_schema.specs.declared.error.SchemaError.TheVariants as error
use Rattle.graphql_schema_files.specs.DraftedTypes.{AddsTypes, TypeIsSound, TypeMeans}
use Rattle.graphql_schema_files.specs.Outlines.{Declares, IsOutline, Outline, OutlineDue, OutlineType, outline_types}
use Rattle.graphql_schema_files.specs.Refusals.{refusal_of}
use Rattle.graphql_schema_files.specs.SchemaFiles.{IsMemory, roots_of}
use Rattle.graphql_schema_files.specs.declared.drafts.SchemaDraft.{SchemaDraft}
use Rattle.graphql_schema_files.specs.declared.drafts.TypeDraft.{TypeDraft}
use Rattle.graphql_schema_files.specs.declared.schema_file_error.SchemaFileError.{SchemaFileError}

-- some text was not right
pub not_added : (file : SchemaDraft) (drafts : List TypeDraft) → drafts ≡ file.types → (old new : List OutlineType) (told : Bool) → told ≡ false → AddsTypes drafts old new told → All TypeIsSound file.types → ⊥
not_added file drafts same old new told is added sound = (subst (AddsTypes drafts old new) is added).0 (subst (All TypeIsSound) (sym same) sound)

module _ (file : SchemaDraft) (drafts : List TypeDraft) (same : drafts ≡ file.types) (old new : List OutlineType) (bare : old ≡ outline_types) (told : Bool) (is : told ≡ true) (added : AddsTypes drafts old new told)
    (named : Roots) (roots : named ≡ roots_of file) where
  -- what holds of the types that were added
  holding : (P : List OutlineType → Type 0) → P new → Declares file P
  holding P p =
      let all = subst (AddsTypes drafts old new) is added in
      (all.0, subst (λ ds. AllZip TypeMeans ds all.0) same all.1, subst P (subst (λ front. new ≡ front ++ all.0) bare all.2) p)

  pub outlined : (schema : Outline) → Makes scalar.String new named (Ok schema) → IsOutline file schema
  outlined schema made = holding (λ types. Makes scalar.String types (roots_of file) (Ok schema)) (subst (λ r. Makes scalar.String new r (Ok schema)) roots made)

  abbrev Tells : SchemaError → Type 0
  Tells e = TellsFirst (completed new file.query) (roots_of file) e

  abbrev Due : SchemaFileError → Type 0
  Due e = UnlessMemory IsMemory e (OutlineDue file e)

  first_told : (e : SchemaError) → Tells e → Declares file (λ types. TellsFirst (completed types file.query) (roots_of file) e)
  first_told e tells = holding (λ types. TellsFirst (completed types file.query) (roots_of file) e) tells

  due : (e : SchemaError) → UnlessMemory (λ e. e ≡ error.Memory) e (Tells e) → Due (refusal_of e)
  due error.Memory tells = λ other. absurd (other refl)
  due (error.DuplicateName name) tells = λ other. first_told (error.DuplicateName name) (tells (λ is. cc))
  due (error.MissingBuiltin name) tells = λ other. first_told (error.MissingBuiltin name) (tells (λ is. cc))
  due (error.UnknownType name) tells = λ other. first_told (error.UnknownType name) (tells (λ is. cc))
  due (error.NotOutputType name) tells = λ other. first_told (error.NotOutputType name) (tells (λ is. cc))
  due (error.NotInputType name) tells = λ other. first_told (error.NotInputType name) (tells (λ is. cc))
  due (error.BadRoot name) tells = λ other. first_told (error.BadRoot name) (tells (λ is. cc))
  due (error.BadMember name) tells = λ other. first_told (error.BadMember name) (tells (λ is. cc))
  due (error.BadOneOf name) tells = λ other. first_told (error.BadOneOf name) (tells (λ is. cc))

  -- the types have a fault
  pub refused_types : (e : SchemaError) (f : SchemaFileError) → f ≡ refusal_of e → Makes scalar.String new named (Err e) → Due f
  refused_types e f same_fault made = subst Due (sym same_fault) (due e (subst (λ r. Makes scalar.String new r (Err e)) roots made))
