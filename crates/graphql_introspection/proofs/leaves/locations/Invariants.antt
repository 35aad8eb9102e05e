use Rattle.std.proofs.Common.{◌≡◌, map, take}
use Rattle.graphql_introspection.specs.Leaves.{text}
use Rattle.graphql_introspection.specs.Names.{location_name}
use Rattle.graphql_introspection.proofs.leaves.locations.Given as goal

abbrev pub invariant-places : goal.invariant-places
invariant-places g l = l.list ≡ map (λ p. text g.S.ScalarValue.of_text (location_name p)) (take l.place-index l.places)
