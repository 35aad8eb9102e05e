-- What is made of all the types of a schema.
use Rattle.std.proofs.Common.{◌≡◌, List, Result, Ok, Err, sym, subst, ap, refl}
use Rattle.graphql_text.specs.Memory.{UnlessMemory}
use Rattle.graphql_scalars.specs.declared.default_scalar.DefaultScalarValue.TheVariants as scalar
use Rattle.graphql_schema.specs.declared.meta.MetaType.{MetaType}
use Rattle.graphql_schema.specs.declared.root_node.RootNode.{RootNode}
use Rattle.graphql_schema.specs.declared.schema.SchemaType.{SchemaType}
use Rattle.graphql_schema.specs.Schemas.{Makes}
use Rattle.graphql_schema.specs.Completed.{completed}
use Rattle.graphql_schema.specs.Faults.{Roots, TellsFirst}
use Rattle.graphql_schema.specs.declared.error.SchemaError.{SchemaError}
use Rattle.graphql_schema.specs.declared.error.SchemaError.TheVariants as error
use Rattle.graphql_schema_files.specs.declared.drafts.SchemaDraft.{SchemaDraft}
use Rattle.graphql_schema_files.specs.DraftedTypes.{S}
use Rattle.graphql_schema_files.specs.SpelledTexts.{Value}
use Rattle.graphql_schema_files.specs.Refusals.{refusal_of}
use Rattle.graphql_schema_files.specs.SchemaFiles.{DefaultsConform, IsFirstUnfit, IsMemory, Judges, MakesRoot, MakingDue, roots_of}
use Rattle.graphql_schema_files.specs.declared.schema_file_error.SchemaFileError.{SchemaFileError}
use Rattle.graphql_schema_files.specs.declared.schema_file_error.SchemaFileError.TheVariants as fault

-- a fault other than want of memory stays what it is
pub other_refusal : (e : SchemaError) → (e ≡ error.Memory → ⊥) → fault.Schema e ≡ refusal_of e
other_refusal error.Memory other = absurd (other refl)
other_refusal (error.DuplicateName name) other = refl
other_refusal (error.MissingBuiltin name) other = refl
other_refusal (error.UnknownType name) other = refl
other_refusal (error.NotOutputType name) other = refl
other_refusal (error.NotInputType name) other = refl
other_refusal (error.BadRoot name) other = refl
other_refusal (error.BadMember name) other = refl
other_refusal (error.BadOneOf name) other = refl

module _ {C : Type 0} (accepts : C → Value → Type 0) (types : List (MetaType S C)) (file : SchemaDraft) where
  abbrev Tells : SchemaError → Type 0
  Tells e = TellsFirst (completed types file.query) (roots_of file) e

  abbrev Due : SchemaFileError → Type 0
  Due e = UnlessMemory IsMemory e (MakingDue accepts types file e)

  fault_due : (e : SchemaError) → UnlessMemory (λ e. e ≡ error.Memory) e (Tells e) → Due (refusal_of e)
  fault_due error.Memory told = λ other. absurd (other refl)
  fault_due (error.DuplicateName name) told = λ other. told (λ is. cc)
  fault_due (error.MissingBuiltin name) told = λ other. told (λ is. cc)
  fault_due (error.UnknownType name) told = λ other. told (λ is. cc)
  fault_due (error.NotOutputType name) told = λ other. told (λ is. cc)
  fault_due (error.NotInputType name) told = λ other. told (λ is. cc)
  fault_due (error.BadRoot name) told = λ other. told (λ is. cc)
  fault_due (error.BadMember name) told = λ other. told (λ is. cc)
  fault_due (error.BadOneOf name) told = λ other. told (λ is. cc)

  -- where the types have a fault
  pub faulty : (named : Roots) (e : SchemaError) (told : SchemaFileError) → named ≡ roots_of file → told ≡ refusal_of e → Makes scalar.String types named (Err e) → Due told
  faulty named e told same is made = subst Due (sym is) (fault_due e (subst (λ roots. Makes scalar.String types roots (Err e)) same made))

  unfit_due : (schema : SchemaType S C) → Makes scalar.String types (roots_of file) (Ok schema) → (e : SchemaFileError) → IsFirstUnfit accepts file schema e → MakingDue accepts types file e
  unfit_due schema made (fault.UnfitDefault place) unfit = (schema, made, unfit)
  unfit_due schema made fault.NotJson unfit = absurd unfit
  unfit_due schema made fault.BadShape unfit = absurd unfit
  unfit_due schema made fault.BadName unfit = absurd unfit
  unfit_due schema made fault.BadTypeText unfit = absurd unfit
  unfit_due schema made fault.BadDefault unfit = absurd unfit
  unfit_due schema made (fault.Schema e) unfit = absurd unfit
  unfit_due schema made fault.Memory unfit = absurd unfit

  -- where they make a schema, which is judged
  judged_made : (schema : SchemaType S C) (result : Result (RootNode S C) SchemaFileError) → Makes scalar.String types (roots_of file) (Ok schema)
      → Judges accepts file schema result → MakesRoot accepts types file result
  judged_made schema (Ok root) made judged = record {
    made = subst (λ s. Makes scalar.String types (roots_of file) (Ok s)) (sym (ap (λ (r : RootNode S C). r.schema) judged.0)) made;
    told = ap (λ (r : RootNode S C). r.introspection_disabled) judged.0;
    conform = subst (DefaultsConform accepts file) (sym (ap (λ (r : RootNode S C). r.schema) judged.0)) judged.1;
  }
  judged_made schema (Err e) made judged = λ other. unfit_due schema made e (judged other)

  pub sound : (named : Roots) (schema : SchemaType S C) (result : Result (RootNode S C) SchemaFileError) → named ≡ roots_of file → Makes scalar.String types named (Ok schema)
      → Judges accepts file schema result → MakesRoot accepts types file result
  sound named schema result same made judged = judged_made schema result (subst (λ roots. Makes scalar.String types roots (Ok schema)) same made) judged
