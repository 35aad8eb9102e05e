use Rattle.graphql_records.proofs.Refusals.{refusals_tell_distinct_keys}
use Rattle.graphql_records.proofs.laws.refusals_tell_distinct_keys.Goals as goal

pub returns : goal.returns
returns c = refusals_tell_distinct_keys
