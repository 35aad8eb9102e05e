use Rattle.graphql_plain_validity.proofs.ReachedParts.{reached-parts-occur}
use Rattle.graphql_plain_validity.proofs.parts.reached_parts_occur.Goals as goal

pub returns : goal.returns
returns g c = reached-parts-occur
