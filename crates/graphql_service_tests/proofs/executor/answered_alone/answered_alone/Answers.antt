use Rattle.graphql_service_tests.proofs.OneAnswer.{never_executed, only_for_memory, only_response}
use Rattle.graphql_service_tests.proofs.executor.answered_alone.answered_alone.Goals as goal

pub returns-clause-answered : goal.returns-clause-answered
returns-clause-answered g c =
    only_response _ _ c.answers_are_one.ensures _ _ _ _ c.execute_sync.result c.execute_sync.ensures.answered

pub returns-clause-not_refused : goal.returns-clause-not_refused
returns-clause-not_refused g c =
    only_for_memory _ _ c.answers_are_one.ensures _ _ _ _ c.executable_requests_are_not_refused.ensures _
    c.execute_sync.result c.execute_sync.ensures.answered

pub returns-clause-refused : goal.returns-clause-refused
returns-clause-refused g c =
    never_executed _ _ c.executable_requests_are_not_refused.ensures _ c.execute_sync.result c.execute_sync.ensures.refused
