use Rattle.graphql_plain_requests.proofs.OnePlain.{plain-texts-are-one}
use Rattle.graphql_plain_requests.proofs.laws.plain_texts_are_one.Goals as goal

pub returns : goal.returns
returns g c = plain-texts-are-one _ c.one_operation_is_executed.ensures c.one_list.ensures
