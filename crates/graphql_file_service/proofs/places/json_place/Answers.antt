use Rattle.std.proofs.Common.{ap, is_some, sym, rules}
use Rattle.serde_json.specs.Errors.{IsMemory}
use Rattle.serde_json.specs.View.{view}
use Rattle.graphql_lines.proofs.Requests.{data_of-read, data_of-refused}
use Rattle.graphql_file_service.proofs.places.json_place.Goals as goal

pub returns-in-Ok : goal.returns-in-Ok
returns-in-Ok c = ap is_some (sym (data_of-read c.args.bytes.now (view c.in-Ok._json) c.in-Ok.ensures.ok.0 c.in-Ok.ensures.ok.1))

pub returns-in-Err-2 : goal.returns-in-Err-2
returns-in-Err-2 c =
    let other : IsMemory c.in-Err.error → ⊥ = search rules in
    data_of-refused c.args.bytes.now (λ u. c.in-Err.ensures.err other u)
