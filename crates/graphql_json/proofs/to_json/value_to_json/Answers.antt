use Rattle.std.proofs.Common.{◌≡◌, ◌++◌, ap, ◌∙◌, subst, OnOk}
use Rattle.std.specs.List.{flat_map}
use Rattle.graphql_json.specs.Json.{step_json}
use Rattle.graphql_json.proofs.JsonSteps.{steps_are_json}
use Rattle.graphql_json.proofs.to_json.value_to_json.Goals as goal

pub returns-clause-written : goal.returns-clause-written
returns-clause-written g c =
    let answer = g.S.ScalarValue.answer in
    subst (λ text. OnOk c.steps_to_json.result (c.steps_to_json.new.out.items ≡ c.args.out.now.items ++ text))
    (ap (flat_map (step_json answer)) c.in_ok-walk.ensures ∙ steps_are_json answer c.args.value.now)
    c.steps_to_json.ensures.written
