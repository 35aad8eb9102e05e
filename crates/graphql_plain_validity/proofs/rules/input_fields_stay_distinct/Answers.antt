use Rattle.graphql_plain_validity.proofs.LocalRules.{input-fields-stay-distinct}
use Rattle.graphql_plain_validity.proofs.rules.input_fields_stay_distinct.Goals as goal

pub returns : goal.returns
returns g c = input-fields-stay-distinct _ _
