use Rattle.graphql_plain_tree.proofs.UsedVariables.{uses-plain}
use Rattle.graphql_plain_tree.proofs.laws.uses_no_more.Goals as goal

pub returns : goal.returns
returns g c = λ drops stand_in set name. uses-plain drops stand_in name set
