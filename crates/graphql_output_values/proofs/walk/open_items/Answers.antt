use Rattle.std.proofs.Common.{◌≡◌, ◌∷◌, refl, subst}
use Rattle.std.specs.Prelude.{IfOk}
use Rattle.graphql_output_values.specs.Pending.{pending, told_step}
use Rattle.graphql_output_values.proofs.PendingLemmas.{first_item}
use Rattle.graphql_output_values.proofs.walk.open_items.Goals as goal

pub returns-in_ok-push-in-Some : goal.returns-in_ok-push-in-Some
returns-in_ok-push-in-Some g c =
    subst (λ es. IfOk c.open_value.result (λ step. es ≡ told_step step ∷ pending c.open_value.new.tasks))
    (first_item c.args.items.now c.in-Some.others.now c.in-Some.first.now c.args.tasks.now c.push.new.self _ c.in-Some.ensures.cases.0 refl c.in_ok-push-in-Some.ensures.ok)
    c.open_value.ensures
