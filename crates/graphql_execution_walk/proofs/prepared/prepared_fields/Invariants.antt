use Rattle.std.proofs.Common.{◌≡◌, length}
use Rattle.graphql_execution_walk.specs.Prepared.{ArePrepared, asked_in}
use Rattle.graphql_execution_walk.proofs.prepared.prepared_fields.Given as goal

abbrev pub invariant-groups : goal.invariant-groups
invariant-groups g l = (length l.all ≡ l.group-index) × ArePrepared (asked_in l.request) l.object l.groups l.all
