-- Each schema that is made has the conditions of the standard.
use Rattle.std.proofs.Common.{◌≡◌, ◌&&◌, true, List, Option, Result, Ok, Err, IfOk, codes, ap, ◌∙◌}
use Rattle.serde_json.specs.Data.{Data}
use Rattle.graphql_names.specs.Names.{Bytes, passes}
use Rattle.graphql_scalars.specs.declared.default_scalar.DefaultScalarValue.TheVariants as scalar_value
use Rattle.graphql_schema.specs.declared.meta.MetaType.{MetaType}
use Rattle.graphql_schema.specs.Directives.{has_standard_conditions, is_condition}
use Rattle.graphql_schema.specs.Schemas.{IsSchemaOf}
use Rattle.graphql_schema.specs.StandardDirectives.{directive_named, standard_directives}
use Rattle.graphql_schema.specs.declared.root_node.RootNode.{RootNode}
use Rattle.graphql_schema.specs.declared.schema.SchemaType.{SchemaType}
use Rattle.graphql_schema.specs.Faults.{Roots}
use Rattle.graphql_schema_files.specs.DraftedTypes.{S}
use Rattle.graphql_schema_files.specs.SpelledTexts.{Value}
use Rattle.graphql_schema_files.specs.SchemaFiles.{ReadsData}
use Rattle.graphql_schema_files.specs.declared.schema_file_error.SchemaFileError.{SchemaFileError}
use Rattle.graphql_schema_files.proofs.Readings.{root_read}

module _ {C : Type 0} where
  -- its directives are found as the standard's
  made_standard : (of_text : Bytes → S) (metadata : List (MetaType S C)) (named : Roots) (schema : SchemaType S C)
      → IsSchemaOf of_text metadata named schema → has_standard_conditions schema.directives ≡ true
  made_standard of_text metadata named schema made =
      ap (λ d. passes is_condition d && passes is_condition (directive_named schema.directives (codes "include"))) (made.directives (codes "skip"))
      ∙ ap (λ d. passes is_condition (directive_named (standard_directives of_text) (codes "skip")) && passes is_condition d) (made.directives (codes "include"))

  pub conditions_read : (accepts : C → Value → Type 0) (types : List (MetaType S C)) (o : Option Data) (result : Result (RootNode S C) SchemaFileError)
      → ReadsData accepts types o result → IfOk result (λ root. has_standard_conditions root.schema.directives ≡ true)
  conditions_read accepts types o (Ok root) read =
      let found = root_read accepts types o root read in
      made_standard scalar_value.String _ _ root.schema found.1.holds.made.1
  conditions_read accepts types o (Err e) read = tt
