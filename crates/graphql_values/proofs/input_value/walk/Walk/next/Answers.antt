use Rattle.std.proofs.Common.{◌∙◌}
use Rattle.graphql_values.specs.Pending.{task_steps}
use Rattle.graphql_values.proofs.PendingLemmas.{pushed}
use Rattle.graphql_values.proofs.input_value.walk.Walk.next.Goals as goal

pub returns-in_ok-open-in-Some : goal.returns-in_ok-open-in-Some
returns-in_ok-open-in-Some g c =
    pushed task_steps c.pop.new.self c.args.self.now.tasks c.in-Some.task c.in-Some.ensures ∙ c.in_ok-open-in-Some.ensures
