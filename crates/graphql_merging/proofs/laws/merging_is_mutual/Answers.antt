use Rattle.graphql_merging.proofs.Standing.{merging-is-mutual}
use Rattle.graphql_merging.proofs.laws.merging_is_mutual.Goals as goal

pub returns : goal.returns
returns g c = merging-is-mutual _ _ _
