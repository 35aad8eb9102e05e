use Rattle.graphql_plain_validity.proofs.LocalRules.{declared-fields-stay}
use Rattle.graphql_plain_validity.proofs.rules.fields_stay_declared.Goals as goal

pub returns : goal.returns
returns g c = declared-fields-stay _ _
