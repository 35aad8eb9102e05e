use Rattle.graphql_plain_tree.proofs.PlainShapes.{plain-throughout}
use Rattle.graphql_plain_tree.proofs.laws.plain_throughout.Goals as goal

pub returns : goal.returns
returns g c = plain-throughout
