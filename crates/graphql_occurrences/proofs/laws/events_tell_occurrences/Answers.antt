use Rattle.graphql_occurrences.proofs.TellsDefinitions.{events_told}
use Rattle.graphql_occurrences.proofs.laws.events_tell_occurrences.Goals as goal

pub returns : goal.returns
returns g c = events_told
