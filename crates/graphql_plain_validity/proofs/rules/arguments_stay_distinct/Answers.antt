use Rattle.graphql_plain_validity.proofs.LocalRules.{arguments-stay-distinct}
use Rattle.graphql_plain_validity.proofs.rules.arguments_stay_distinct.Goals as goal

pub returns : goal.returns
returns g c = arguments-stay-distinct _ _
