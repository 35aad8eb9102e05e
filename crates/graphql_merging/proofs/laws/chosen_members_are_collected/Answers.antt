use Rattle.graphql_merging.proofs.OneObject.{chosen-are-collected}
use Rattle.graphql_merging.proofs.laws.chosen_members_are_collected.Goals as goal

pub returns : goal.returns
returns g c = chosen-are-collected _ _
