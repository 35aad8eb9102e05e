use Rattle.std.proofs.Common.{◌∷◌, ap, sym, refl, ◌∙◌}
use Rattle.graphql_output_values.specs.Steps.{Key}
use Rattle.graphql_output_values.specs.Pending.{pending}
use Rattle.graphql_output_values.proofs.PendingLemmas.{first_field}
use Rattle.graphql_output_values.proofs.walk.open_fields.Goals as goal

pub returns-in_ok-push-in-Some-2 : goal.returns-in_ok-push-in-Some-2
returns-in_ok-push-in-Some-2 g c =
    first_field c.args.fields.now c.in-Some.others.now c.in-Some.first.now c.args.tasks.now c.push.new.self c.push-in-Some.new.self _ _ c.in-Some.ensures.cases.0 refl c.in_ok-push-in-Some.ensures.ok refl c.in_ok-push-in-Some-2.ensures.ok
    ∙ ap (λ key. Key key ∷ pending c.push-in-Some.new.self) (sym c.as_str.ensures)
