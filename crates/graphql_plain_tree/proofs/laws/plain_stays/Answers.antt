use Rattle.graphql_plain_tree.proofs.PlainShapes.{plain-stays}
use Rattle.graphql_plain_tree.proofs.laws.plain_stays.Goals as goal

pub returns : goal.returns
returns g c = plain-stays
