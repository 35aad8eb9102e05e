use Rattle.graphql_semantics.proofs.Depths.{evaluate-run}
use Rattle.graphql_semantics.proofs.laws.depths_are_alike.Goals as goal

pub returns : goal.returns
returns g c = λ e. evaluate-run e
