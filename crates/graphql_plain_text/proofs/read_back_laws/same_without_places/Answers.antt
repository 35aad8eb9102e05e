use Rattle.graphql_values.proofs.SamePlaces.{same_without_places}
use Rattle.graphql_plain_text.proofs.read_back_laws.same_without_places.Goals as goal

pub returns : goal.returns
returns g c = same_without_places _ g.met.S.Eq.laws
