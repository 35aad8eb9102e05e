use Rattle.graphql_plain_validity.proofs.MergingWithoutPlaces.{merging-without-places}
use Rattle.graphql_plain_validity.proofs.merging.merging_without_places.Goals as goal

pub returns : goal.returns
returns g c = merging-without-places _ _ _ g.met.S.Eq.laws
