use Rattle.graphql_mutation.proofs.FittingRuns.{run-failures-exact}
use Rattle.graphql_mutation.proofs.laws.run_failures_are_exact.Goals as goal

pub returns : goal.returns
returns g c = run-failures-exact _ _ _ c.failures_are_exact.ensures
