use Rattle.std.proofs.Common.{ap, refl, rules}
use Rattle.std.specs.Option.{is_some}
use Rattle.serde_json.specs.View.{view}
use Rattle.serde_json.specs.Errors.{IsMemory}
use Rattle.graphql_lines.proofs.Requests.{data_of-read, data_of-refused}
use Rattle.graphql_lines.proofs.request.json_of_line.Goals as goal

pub returns-in-Ok : goal.returns-in-Ok
returns-in-Ok c = data_of-read c.args.line.now (view c.in-Ok.value) c.in-Ok.ensures.ok.0 c.in-Ok.ensures.ok.1

pub returns-in-Err-2 : goal.returns-in-Err-2
returns-in-Err-2 c = λ told.
    let other : IsMemory c.in-Err.error → ⊥ = search rules in
    (refl, ap is_some (data_of-refused c.args.line.now (λ u. c.in-Err.ensures.err other u)))
