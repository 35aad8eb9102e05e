use Rattle.graphql_mutation.proofs.FittingRuns.{runs-without-data-fail}
use Rattle.graphql_mutation.proofs.laws.runs_without_data_fail.Goals as goal

pub returns : goal.returns
returns g c = runs-without-data-fail _ _ _ c.no_data_fails.ensures
