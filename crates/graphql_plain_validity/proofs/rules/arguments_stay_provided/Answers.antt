use Rattle.graphql_plain_validity.proofs.LocalRules.{arguments-stay-provided}
use Rattle.graphql_plain_validity.proofs.rules.arguments_stay_provided.Goals as goal

pub returns : goal.returns
returns g c = λ schema standard. arguments-stay-provided _ _ schema standard
