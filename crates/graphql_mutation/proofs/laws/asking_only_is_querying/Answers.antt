use Rattle.graphql_mutation.proofs.SerialQueries.{asking-only-is-querying}
use Rattle.graphql_mutation.proofs.laws.asking_only_is_querying.Goals as goal

pub returns : goal.returns
returns g c = asking-only-is-querying _ _ _
