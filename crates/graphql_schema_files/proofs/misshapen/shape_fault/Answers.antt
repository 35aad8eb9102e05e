use Rattle.std.proofs.Common.{sym, ap, ◌∙◌}
use Rattle.graphql_json.specs.Parts.{◌>>=◌}
use Rattle.graphql_schema_files.specs.ShapeFaults.{file_fault}
use Rattle.graphql_schema_files.proofs.misshapen.shape_fault.Goals as goal

pub returns-in-Ok : goal.returns-in-Ok
returns-in-Ok c = c.file_fault.ensures ∙ ap (λ o. o >>= file_fault) (sym c.in-Ok.ensures)
