use Rattle.graphql_plain_validity.proofs.SpreadRules.{spreads-stay-possible}
use Rattle.graphql_plain_validity.proofs.rules.spreads_stay_possible.Goals as goal

pub returns : goal.returns
returns g c = spreads-stay-possible _ _
