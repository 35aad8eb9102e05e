use Rattle.std.proofs.Common.{◌≡◌, [], ◌∷◌, true, ap, sym, subst, refl}
use Rattle.std.specs.Prelude.{MatchOption}
use Rattle.std.specs.List.{flat_map}
use Rattle.std.proofs.Output.{has_written_append, has_written_of_eq, writes_in_calls_nil}
use Rattle.graphql_output_values.specs.Pending.{steps_ahead, told_step}
use Rattle.graphql_output_values.specs.ValueText.{step_text}
use Rattle.graphql_output_values.proofs.display.write_steps.Goals as goal

pub steps-preserved : goal.steps-preserved
steps-preserved g c plain =
    let texts = flat_map (step_text g.S.ScalarValue.answer) in
    let so_far = c.steps.invariant plain in
    let next = subst (λ o. MatchOption o (steps_ahead c.steps.walk ≡ []) (λ step. steps_ahead c.steps.walk ≡ told_step step ∷ steps_ahead c.next.new.self)) c.in-Ok-Some.field-0-is c.in-Ok-Some.ensures in
    let written = c.in_ok-write_step-in-Ok-Some.ensures so_far.0 (refl {a = true}) in
    (written.plain, λ end rest. so_far.1 end (has_written_of_eq _ _ _ _ _ (ap texts (sym next)) (has_written_append _ _ _ _ _ _ written rest)))

pub returns-in-Ok-None : goal.returns-in-Ok-None
returns-in-Ok-None g c plain ok =
    let texts = flat_map (step_text g.S.ScalarValue.answer) in
    let so_far = c.steps.invariant plain in
    let none = subst (λ o. MatchOption o (steps_ahead c.steps.walk ≡ []) (λ step. steps_ahead c.steps.walk ≡ told_step step ∷ steps_ahead c.next.new.self)) c.in-Ok-None.field-0-is c.in-Ok-None.ensures in
    so_far.1 _ (has_written_of_eq _ _ _ _ _ (ap texts (sym none)) (record { wrote = writes_in_calls_nil _ _; plain = so_far.0 }))
