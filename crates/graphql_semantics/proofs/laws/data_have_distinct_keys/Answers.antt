use Rattle.graphql_semantics.proofs.DistinctMembers.{distinct-keys}
use Rattle.graphql_semantics.proofs.laws.data_have_distinct_keys.Goals as goal

pub returns : goal.returns
returns g c = distinct-keys _ _
