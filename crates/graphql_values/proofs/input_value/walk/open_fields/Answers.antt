use Rattle.std.proofs.Common.{◌∷◌, ap, sym, refl, ◌∙◌}
use Rattle.graphql_values.specs.Pending.{pending, task_steps}
use Rattle.graphql_values.specs.Steps.{Gap, Name, ObjectCloses, field_steps, steps}
use Rattle.graphql_values.proofs.PendingLemmas.{first_part, opened}
use Rattle.graphql_values.proofs.input_value.walk.open_fields.Goals as goal

pub returns-in_ok-push-in-Some-2 : goal.returns-in_ok-push-in-Some-2
returns-in_ok-push-in-Some-2 g c =
    let first = c.in-Some.first.now in
    sym (first_part (field_steps steps) Gap ObjectCloses task_steps c.args.fields.now c.in-Some.others.now first c.args.tasks.now c.push.new.self _ c.in-Some.ensures.cases.0 refl c.in_ok-push-in-Some.ensures.ok)
    ∙ opened task_steps (field_steps steps first) (Name first.0.item) c.push.new.self c.push-in-Some.new.self _ refl c.in_ok-push-in-Some-2.ensures.ok
    ∙ ap (λ name. Name name ∷ pending task_steps c.push-in-Some.new.self) (sym c.as_str.ensures)
