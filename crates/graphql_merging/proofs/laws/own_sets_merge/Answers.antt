use Rattle.graphql_merging.proofs.OneObject.{own-sets-merge}
use Rattle.graphql_merging.proofs.laws.own_sets_merge.Goals as goal

pub returns : goal.returns
returns g c = own-sets-merge _ _ _
