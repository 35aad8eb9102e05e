use Rattle.graphql_service.proofs.AnsweredApart.{lines-are-answered-apart, queries-leave}
use Rattle.graphql_service.proofs.laws.queries_leave_the_context.Goals as goal

pub returns-clause-apart : goal.returns-clause-apart
returns-clause-apart g c = lines-are-answered-apart _

pub returns-clause-leave : goal.returns-clause-leave
returns-clause-leave g c = queries-leave _
