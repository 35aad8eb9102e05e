use Rattle.graphql_semantics.proofs.FittingData.{data-fit}
use Rattle.graphql_semantics.proofs.laws.data_fit.Goals as goal

pub returns : goal.returns
returns g c = data-fit _ _
