use Rattle.std.proofs.Common.{ap, ◌∙◌, subst}
use Rattle.std.specs.Fmt.{WritesOnOk}
use Rattle.std.specs.List.{flat_map}
use Rattle.graphql_values.specs.InputValueText.{step_text}
use Rattle.graphql_values.proofs.StepLemmas.{steps_are_text}
use Rattle.graphql_values.proofs.input_value.display.write_walked.Goals as goal

pub returns-in-Ok : goal.returns-in-Ok
returns-in-Ok g c =
    let answer = g.S.ScalarValue.answer in
    subst (λ text. WritesOnOk g.W.Write.write_str_gives c.args.f.now c.write_steps.result text c.write_steps.new.f)
    (ap (flat_map (step_text answer)) c.in-Ok.ensures ∙ steps_are_text answer c.args.value.now)
    c.write_steps.ensures
