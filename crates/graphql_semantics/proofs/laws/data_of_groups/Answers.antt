use Rattle.graphql_semantics.proofs.RunRepeats.{data-of-groups}
use Rattle.graphql_semantics.proofs.laws.data_of_groups.Goals as goal

pub returns : goal.returns
returns g c = data-of-groups _ _
