use Rattle.std.proofs.Common.{◌≡◌, Some, None, refl, sym, subst, rules}
use Rattle.std.specs.Prelude.{Err}
use Rattle.serde_json.specs.View.{view}
use Rattle.graphql_schema_files.specs.Outlines.{OutlinesShape}
use Rattle.graphql_schema_files.specs.Shapes.{schema_of}
use Rattle.graphql_schema_files.specs.declared.schema_file_error.SchemaFileError.TheVariants.{BadShape}
use Rattle.graphql_schema_files.proofs.outlines.outline_in.Goals as goal

pub returns-in-Some : goal.returns-in-Some
returns-in-Some c =
    let told : schema_of (view c.args.json.now) ≡ Some c.in-Some.file = search rules in
    subst (λ o. OutlinesShape o c.outline_of.result) (sym told) c.outline_of.ensures

pub returns-in-None : goal.returns-in-None
returns-in-None c =
    let told : schema_of (view c.args.json.now) ≡ None = search rules in
    subst (λ o. OutlinesShape o (Err BadShape)) (sym told) (λ other. refl)
