use Rattle.graphql_plain_tree.proofs.Heights.{not-higher}
use Rattle.graphql_plain_tree.proofs.laws.not_higher.Goals as goal

pub returns : goal.returns
returns g c = not-higher
