use Rattle.graphql_occurrences.proofs.UnlocatedParts.{document_unlocated}
use Rattle.graphql_occurrences.proofs.laws.occurrences_without_places.Goals as goal

pub returns : goal.returns
returns g c = document_unlocated
