use Rattle.std.proofs.Common.{◌≡◌, Some, None, ok_or, ap, rules}
use Rattle.serde_json.specs.View.{view}
use Rattle.graphql_text.specs.Memory.{◌>>=◌}
use Rattle.graphql_data_files.specs.DataFiles.{described, drafted}
use Rattle.graphql_data_files.specs.Drafts.{file_of}
use Rattle.graphql_data_files.specs.LentDrafts.{file_told}
use Rattle.graphql_data_files.specs.declared.data_file_error.DataFileError.TheVariants.{BadShape}
use Rattle.graphql_data_files.proofs.ReadSteps.{meets_along}
use Rattle.graphql_data_files.proofs.reading.described.Goals as goal

pub returns-in-Some : goal.returns-in-Some
returns-in-Some c =
    let types = c.args.types.now in
    let query = c.args.query.now in
    let told : file_of (view c.args.json.now) ≡ Some (file_told c.in-Some.file) = search rules in
    meets_along c.drafted.result (drafted types query (file_told c.in-Some.file)) (described types query (view c.args.json.now))
    (ap (λ o. ok_or o BadShape >>= drafted types query) told) c.drafted.ensures

pub returns-in-None : goal.returns-in-None
returns-in-None c =
    let told : file_of (view c.args.json.now) ≡ None = search rules in
    λ u. ap (λ o. ok_or o BadShape >>= drafted c.args.types.now c.args.query.now) told
