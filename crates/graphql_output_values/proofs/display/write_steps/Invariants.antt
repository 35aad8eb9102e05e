use Rattle.std.proofs.Common.{length}
use Rattle.std.specs.Fmt.{HasWritten, IsPlainFormatter}
use Rattle.std.specs.List.{flat_map}
use Rattle.graphql_output_values.specs.Pending.{steps_ahead}
use Rattle.graphql_output_values.specs.ValueText.{step_text}
use Rattle.graphql_output_values.proofs.display.write_steps.Given as goal

-- whoever writes what is left has written all
abbrev pub invariant-steps : goal.invariant-steps
invariant-steps g l =
    let took = g.W.Write.write_str_gives in
    let texts = flat_map (step_text g.S.ScalarValue.answer) in
    IsPlainFormatter l.initial.f → IsPlainFormatter l.f × ((end : _) → HasWritten took l.f (texts (steps_ahead l.walk)) end → HasWritten took l.initial.f (texts (steps_ahead l.initial.walk)) end)

abbrev pub decreases-steps : goal.decreases-steps
decreases-steps g l = length (steps_ahead l.walk)
