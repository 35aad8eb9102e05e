use Rattle.graphql_plain_validity.proofs.LocalRules.{types-stay-known}
use Rattle.graphql_plain_validity.proofs.rules.named_types_stay_known.Goals as goal

pub returns : goal.returns
returns g c = types-stay-known _ _
