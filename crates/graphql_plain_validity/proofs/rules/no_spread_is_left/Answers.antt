use Rattle.graphql_plain_validity.proofs.LocalRules.{no-spread-is-left}
use Rattle.graphql_plain_validity.proofs.rules.no_spread_is_left.Goals as goal

pub returns : goal.returns
returns g c = no-spread-is-left _ _
