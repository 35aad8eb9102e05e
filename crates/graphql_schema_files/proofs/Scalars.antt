-- Each schema that is made with the scalars of given checks has them, by their names.
use Rattle.std.proofs.Common.{◌++◌, List, Option, Result, Ok, Err, IfOk, codes, refl, arith}
use Rattle.std.proofs.lemmas.List.Sorted.{Contains-permutation}
use Rattle.serde_json.specs.Data.{Data}
use Rattle.graphql_names.proofs.NameMaps.{in_is_found}
use Rattle.graphql_scalars.specs.declared.default_scalar.DefaultScalarValue.TheVariants as scalar_value
use Rattle.graphql_schema.specs.declared.introspection_checks.IntrospectionChecks.{IntrospectionChecks}
use Rattle.graphql_schema.specs.declared.meta.MetaType.{MetaType}
use Rattle.graphql_schema.specs.declared.root_node.RootNode.{RootNode}
use Rattle.graphql_schema.specs.declared.schema.SchemaType.{SchemaType}
use Rattle.graphql_schema.specs.Schemas.{IsSchemaOf}
use Rattle.graphql_schema.specs.Completed.{completed}
use Rattle.graphql_schema.specs.Faults.{Roots}
use Rattle.graphql_schema.specs.Lookups.{own_name}
use Rattle.graphql_schema_files.specs.DraftedTypes.{S}
use Rattle.graphql_schema_files.specs.SpelledTexts.{Value}
use Rattle.graphql_schema_files.specs.Builtin.{HasScalars, builtin_types, scalar}
use Rattle.graphql_schema_files.specs.SchemaFiles.{ReadsData}
use Rattle.graphql_schema_files.specs.declared.schema_file_error.SchemaFileError.{SchemaFileError}
use Rattle.graphql_schema_files.proofs.Readings.{root_read}

module _ {C : Type 0} (int string boolean id : C) (introspection : IntrospectionChecks C) where
  abbrev builtin : List (MetaType S C)
  builtin = builtin_types int string boolean id introspection

  scalars_found : (declared : List (MetaType S C)) (named : Roots) (schema : SchemaType S C) → IsSchemaOf scalar_value.String (builtin ++ declared) named schema → HasScalars int string boolean id schema.types
  scalars_found declared named schema made =
      let all = completed (builtin ++ declared) named.query in
      record {
        int_has = in_is_found own_name schema.types (scalar (codes "Int") int) schema.by_name (Contains-permutation all schema.types (scalar (codes "Int") int) made.types (0, omega arith, refl));
        string_has = in_is_found own_name schema.types (scalar (codes "String") string) schema.by_name (Contains-permutation all schema.types (scalar (codes "String") string) made.types (1, omega arith, refl));
        boolean_has = in_is_found own_name schema.types (scalar (codes "Boolean") boolean) schema.by_name (Contains-permutation all schema.types (scalar (codes "Boolean") boolean) made.types (2, omega arith, refl));
        id_has = in_is_found own_name schema.types (scalar (codes "ID") id) schema.by_name (Contains-permutation all schema.types (scalar (codes "ID") id) made.types (3, omega arith, refl));
      }

  pub scalars_read : (accepts : C → Value → Type 0) (o : Option Data) (result : Result (RootNode S C) SchemaFileError) → ReadsData accepts builtin o result
      → IfOk result (λ root. HasScalars int string boolean id root.schema.types)
  scalars_read accepts o (Ok root) read = let r = root_read accepts builtin o root read in scalars_found r.1.declared _ root.schema r.1.holds.made.1
  scalars_read accepts o (Err e) read = tt
