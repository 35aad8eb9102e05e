use Rattle.graphql_rules.proofs.SpreadLemmas.{spreads_told}
use Rattle.graphql_rules.proofs.laws.possible_spreads_tell_of_occurrences.Goals as goal

pub returns : goal.returns
returns g c = λ subject v w told made runs. spreads_told subject v w told made runs
