use Rattle.graphql_plain_validity.proofs.LocalRules.{conditions-stay-composite}
use Rattle.graphql_plain_validity.proofs.rules.conditions_stay_composite.Goals as goal

pub returns : goal.returns
returns g c = conditions-stay-composite _ _
