use Rattle.graphql_look_ahead.proofs.ChildrenLemmas.{children-same}
use Rattle.graphql_look_ahead.proofs.laws.children_are_unique.Goals as goal

pub returns : goal.returns
returns g c = children-same
