use Rattle.graphql_semantics.proofs.ExactFailures.{failures-exact}
use Rattle.graphql_semantics.proofs.laws.failures_are_exact.Goals as goal

pub returns : goal.returns
returns g c = failures-exact _ _
