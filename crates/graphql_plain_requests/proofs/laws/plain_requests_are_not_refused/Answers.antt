use Rattle.graphql_plain_requests.proofs.OnePlain.{plain-are-not-refused}
use Rattle.graphql_plain_requests.proofs.laws.plain_requests_are_not_refused.Goals as goal

pub returns : goal.returns
returns g c =
    plain-are-not-refused _ c.one_operation_is_executed.ensures c.executable_requests_are_not_refused.ensures
