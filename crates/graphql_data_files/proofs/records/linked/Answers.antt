use Rattle.std.proofs.Common.{sym, ◌∙◌, ap, Err}
use Rattle.std.specs.Prelude.{if◌then◌else◌}
use Rattle.graphql_data_files.specs.DataFiles.{rooted}
use Rattle.graphql_data_files.specs.declared.data_file_error.DataFileError.TheVariants.{BadLink}
use Rattle.graphql_data_files.proofs.records.linked.Goals as goal

pub returns-else-all_lead : goal.returns-else-all_lead
returns-else-all_lead c =
    sym (ap (λ led. if led then rooted c.args.query.now c.args.root.now c.args.records.entries else Err BadLink) (sym c.all_lead.ensures ∙ c.if-all_lead.false))
