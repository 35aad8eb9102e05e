use Rattle.graphql_mutation.proofs.FittingRuns.{runs-fit}
use Rattle.graphql_mutation.proofs.laws.runs_fit.Goals as goal

pub returns : goal.returns
returns g c = runs-fit _ _ _ c.data_fit.ensures
