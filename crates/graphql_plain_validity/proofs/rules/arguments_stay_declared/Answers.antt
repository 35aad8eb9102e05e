use Rattle.graphql_plain_validity.proofs.LocalRules.{arguments-stay-declared}
use Rattle.graphql_plain_validity.proofs.rules.arguments_stay_declared.Goals as goal

pub returns : goal.returns
returns g c = λ schema standard. arguments-stay-declared _ _ schema standard
