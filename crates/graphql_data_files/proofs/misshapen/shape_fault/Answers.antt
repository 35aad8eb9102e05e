use Rattle.std.proofs.Common.{◌≡◌, Some, sym, subst}
use Rattle.serde_json.specs.View.{view}
use Rattle.graphql_json.specs.Parts.{◌>>=◌}
use Rattle.graphql_lines.specs.Request.{data_of}
use Rattle.graphql_text.specs.Memory.{Gives}
use Rattle.graphql_data_files.specs.RecordShapes.{file_fault}
use Rattle.graphql_data_files.proofs.Placing.{parsed}
use Rattle.graphql_data_files.proofs.misshapen.shape_fault.Goals as goal

pub returns-in-Ok : goal.returns-in-Ok
returns-in-Ok c =
    let told : data_of c.args.bytes.now ≡ Some (view c.in-Ok.json) = parsed (data_of c.args.bytes.now) (view c.in-Ok.json) c.in-Ok.ensures in
    subst (λ o. Gives c.file_fault.result (o >>= file_fault)) (sym told) c.file_fault.ensures
