use Rattle.std.proofs.Common.{◌∷◌, ap, sym, ◌∙◌}
use Rattle.graphql_values.specs.Pending.{task_steps}
use Rattle.graphql_values.specs.Steps.{ListOpens, ObjectOpens, fields_steps, items_steps, steps}
use Rattle.graphql_values.proofs.StepLemmas.{steps-list, steps-object}
use Rattle.graphql_values.proofs.PendingLemmas.{opened}
use Rattle.graphql_values.proofs.input_value.walk.open_value.Goals as goal

pub returns-in_ok-push-in-List : goal.returns-in_ok-push-in-List
returns-in_ok-push-in-List g c =
    opened task_steps (steps c.args.value.now) ListOpens c.args.tasks.now c.push.new.self _
    (ap steps c.in-List.is ∙ steps-list c.in-List.items ∙ ap (λ xs. ListOpens ∷ items_steps xs) (sym c.as_slice.ensures))
    c.in_ok-push-in-List.ensures.ok

pub returns-in_ok-push-in-Object : goal.returns-in_ok-push-in-Object
returns-in_ok-push-in-Object g c =
    opened task_steps (steps c.args.value.now) ObjectOpens c.args.tasks.now c.push-in-Object.new.self _
    (ap steps c.in-Object.is ∙ steps-object c.in-Object.pairs ∙ ap (λ ps. ObjectOpens ∷ fields_steps ps) (sym c.as_slice-in-Object.ensures))
    c.in_ok-push-in-Object.ensures.ok
