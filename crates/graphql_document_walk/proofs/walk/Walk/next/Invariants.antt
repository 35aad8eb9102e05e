use Rattle.std.proofs.Common.{◌≡◌}
use Rattle.graphql_document_walk.specs.Pending.{ahead, parts_on_top}
use Rattle.graphql_document_walk.proofs.walk.Walk.next.Given as goal

abbrev pub invariant-tasks : goal.invariant-tasks
invariant-tasks g l = (l.self.schema ≡ l.initial.self.schema) × (ahead l.self ≡ ahead l.initial.self)

abbrev pub decreases-tasks : goal.decreases-tasks
decreases-tasks g l = parts_on_top l.self.tasks
