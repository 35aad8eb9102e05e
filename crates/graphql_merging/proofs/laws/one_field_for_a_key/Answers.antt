use Rattle.graphql_merging.proofs.OneObject.{one-field}
use Rattle.graphql_merging.proofs.laws.one_field_for_a_key.Goals as goal

pub returns : goal.returns
returns g c = one-field _ _ _
