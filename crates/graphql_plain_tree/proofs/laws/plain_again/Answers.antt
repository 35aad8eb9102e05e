use Rattle.graphql_plain_tree.proofs.PlainShapes.{plain-again}
use Rattle.graphql_plain_tree.proofs.laws.plain_again.Goals as goal

pub returns : goal.returns
returns g c = plain-again
