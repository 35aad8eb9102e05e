use Rattle.std.proofs.Common.{Err, ok_or, ap, sym, ◌∙◌}
use Rattle.graphql_lines.specs.Request.{data_of}
use Rattle.graphql_data_files.specs.declared.data_file_error.DataFileError.TheVariants.{NotJson}
use Rattle.graphql_data_files.proofs.ReadSteps.{no_json}
use Rattle.graphql_data_files.proofs.reading.json_of.Goals as goal

pub returns-in-Ok : goal.returns-in-Ok
returns-in-Ok c = ap (λ o. ok_or o NotJson) (sym c.in-Ok.ensures)

pub returns-in-Err : goal.returns-in-Err
returns-in-Err c =
    let refusal = c.in-Err.refusal in
    λ u. no_json refusal (data_of c.args.bytes.now) c.in-Err.ensures (λ is. u (c.fault_of.ensures ∙ is)) ∙ ap Err (sym c.fault_of.ensures)
