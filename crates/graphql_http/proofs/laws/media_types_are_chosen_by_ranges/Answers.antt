use Rattle.graphql_http.proofs.AcceptLemmas.{chooses_by_ranges}
use Rattle.graphql_http.proofs.laws.media_types_are_chosen_by_ranges.Goals as goal

pub returns : goal.returns
returns c = chooses_by_ranges
