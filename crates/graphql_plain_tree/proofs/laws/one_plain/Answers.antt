use Rattle.graphql_plain_tree.proofs.PlainRelations.{one-plain}
use Rattle.graphql_plain_tree.proofs.laws.one_plain.Goals as goal

pub returns : goal.returns
returns g c = one-plain
