use Rattle.graphql_semantics.proofs.Failures.{failures-stand}
use Rattle.graphql_semantics.proofs.laws.failures_stand_below.Goals as goal

pub returns : goal.returns
returns g c = failures-stand _ _
