use Rattle.graphql_mutation.proofs.DistinctRuns.{distinct-runs}
use Rattle.graphql_mutation.proofs.laws.runs_have_distinct_keys.Goals as goal

pub returns : goal.returns
returns g c = distinct-runs _ _ _ c.data_have_distinct_keys.ensures c.failures_tell_distinct_keys.ensures
