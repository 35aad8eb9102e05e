use Rattle.graphql_stores.proofs.LeftContexts.{queries-leave}
use Rattle.graphql_stores.proofs.laws.queries_leave_the_context.Goals as goal

pub returns : goal.returns
returns g c = queries-leave _ c.one_operation_is_executed.ensures
