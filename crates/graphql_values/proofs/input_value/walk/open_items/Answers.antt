use Rattle.std.proofs.Common.{◌≡◌, ◌∷◌, refl, subst}
use Rattle.std.specs.Prelude.{IfOk}
use Rattle.graphql_values.specs.Pending.{pending, task_steps, told_step}
use Rattle.graphql_values.specs.Steps.{Gap, ListCloses, item_steps, steps}
use Rattle.graphql_values.proofs.PendingLemmas.{first_part}
use Rattle.graphql_values.proofs.input_value.walk.open_items.Goals as goal

pub returns-in_ok-push-in-Some : goal.returns-in_ok-push-in-Some
returns-in_ok-push-in-Some g c =
    subst (λ es. IfOk c.open_value.result (λ step. es ≡ told_step step ∷ pending task_steps c.open_value.new.tasks))
    (first_part (item_steps steps) Gap ListCloses task_steps c.args.items.now c.in-Some.others.now c.in-Some.first.now c.args.tasks.now c.push.new.self _ c.in-Some.ensures.cases.0 refl c.in_ok-push-in-Some.ensures.ok)
    c.open_value.ensures
