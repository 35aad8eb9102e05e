use Rattle.std.proofs.Common.{◌≡◌, Some, IfOk, sym, subst}
use Rattle.serde_json.specs.View.{view}
use Rattle.graphql_json.specs.Parts.{◌>>=◌}
use Rattle.graphql_lines.specs.Request.{data_of}
use Rattle.graphql_data_files.specs.Drafts.{file_of}
use Rattle.graphql_data_files.specs.RecordPlaces.{IsPlaceOf}
use Rattle.graphql_data_files.proofs.Placing.{parsed}
use Rattle.graphql_data_files.proofs.places.place_in_bytes.Goals as goal

pub returns-in-Ok : goal.returns-in-Ok
returns-in-Ok c =
    let told : data_of c.args.bytes.now ≡ Some (view c.in-Ok.json) = parsed (data_of c.args.bytes.now) (view c.in-Ok.json) c.in-Ok.ensures in
    subst (λ o. IfOk c.place_in_json.result (IsPlaceOf c.args.types.now c.args.fault (o >>= file_of))) (sym told) c.place_in_json.ensures
