use Rattle.graphql_joins.proofs.QuerySets.{queries-stand}
use Rattle.graphql_joins.proofs.laws.queries_stand.Goals as goal

pub returns : goal.returns
returns g c = queries-stand _ _
