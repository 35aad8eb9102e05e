use Rattle.graphql_records.proofs.Refusals.{refusals_change_nothing}
use Rattle.graphql_records.proofs.laws.refusals_change_nothing.Goals as goal

pub returns : goal.returns
returns c = refusals_change_nothing
