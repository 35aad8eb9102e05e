use Rattle.std.proofs.Common.{◌≡◌, Some, None, map, ok_or, ap, sym, ◌∙◌, rules}
use Rattle.graphql_text.specs.Memory.{◌>>=◌}
use Rattle.graphql_data_files.specs.DataFiles.{drafted, judged}
use Rattle.graphql_data_files.specs.Drafts.{records_of}
use Rattle.graphql_data_files.specs.LentDrafts.{draft_told, file_told}
use Rattle.graphql_data_files.specs.declared.data_file_error.DataFileError.TheVariants.{BadNumber}
use Rattle.graphql_data_files.proofs.ReadSteps.{meets_along}
use Rattle.graphql_data_files.proofs.reading.drafted.Goals as goal

pub returns-in-Some : goal.returns-in-Some
returns-in-Some c =
    let types = c.args.types.now in
    let query = c.args.query.now in
    let root = c.args.file.now.root in
    let same : c.as_str.result.now ≡ root = c.as_str.ensures in
    let told : records_of (map draft_told c.args.file.now.records) ≡ Some c.in-Some.records = search rules in
    meets_along c.judged.result (judged types query c.as_str.result.now c.in-Some.records) (drafted types query (file_told c.args.file.now))
    (ap (λ o. ok_or o BadNumber >>= judged types query root) told ∙ ap (λ id. judged types query id c.in-Some.records) (sym same)) c.judged.ensures

pub returns-in-None : goal.returns-in-None
returns-in-None c =
    let told : records_of (map draft_told c.args.file.now.records) ≡ None = search rules in
    λ u. ap (λ o. ok_or o BadNumber >>= judged c.args.types.now c.args.query.now c.args.file.now.root) told
