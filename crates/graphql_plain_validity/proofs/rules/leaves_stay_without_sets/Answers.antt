use Rattle.graphql_plain_validity.proofs.LocalRules.{leaves-stay}
use Rattle.graphql_plain_validity.proofs.rules.leaves_stay_without_sets.Goals as goal

pub returns : goal.returns
returns g c = leaves-stay _ _
