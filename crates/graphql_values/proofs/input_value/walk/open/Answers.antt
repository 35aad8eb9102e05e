use Rattle.std.proofs.Common.{ap, ◌∙◌}
use Rattle.graphql_values.specs.Pending.{task_steps}
use Rattle.graphql_values.specs.Steps.{Gap, ListCloses, ObjectCloses, field_steps, item_steps, steps}
use Rattle.graphql_values.proofs.PendingLemmas.{gap_first, opened}
use Rattle.graphql_values.proofs.input_value.walk.open.Goals as goal

pub returns-in_ok-push-in-MoreItems : goal.returns-in_ok-push-in-MoreItems
returns-in_ok-push-in-MoreItems g c =
    opened task_steps (task_steps c.args.task) Gap c.args.tasks.now c.push.new.self _
    (ap task_steps c.in-MoreItems.is ∙ gap_first (item_steps steps) Gap ListCloses c.in-MoreItems.items.now c.if-is_empty.ensures)
    c.in_ok-push-in-MoreItems.ensures.ok

pub returns-in_ok-push-in-MoreFields : goal.returns-in_ok-push-in-MoreFields
returns-in_ok-push-in-MoreFields g c =
    opened task_steps (task_steps c.args.task) Gap c.args.tasks.now c.push-in-MoreFields.new.self _
    (ap task_steps c.in-MoreFields.is ∙ gap_first (field_steps steps) Gap ObjectCloses c.in-MoreFields.fields.now c.if-is_empty-2.ensures)
    c.in_ok-push-in-MoreFields.ensures.ok
