use Rattle.graphql_semantics.proofs.Failures.{no-data-fails}
use Rattle.graphql_semantics.proofs.laws.no_data_fails.Goals as goal

pub returns : goal.returns
returns g c = no-data-fails _ _
