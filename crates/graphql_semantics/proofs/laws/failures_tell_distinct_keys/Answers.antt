use Rattle.graphql_semantics.proofs.ToldErrors.{failures-tell}
use Rattle.graphql_semantics.proofs.laws.failures_tell_distinct_keys.Goals as goal

pub returns : goal.returns
returns g c = failures-tell _ _
