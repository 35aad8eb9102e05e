use Rattle.graphql_look_ahead.proofs.ChildrenLemmas.{children-exist}
use Rattle.graphql_look_ahead.proofs.laws.children_exist.Goals as goal

pub returns : goal.returns
returns g c = children-exist
