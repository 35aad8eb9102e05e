use Rattle.std.proofs.Common.{◌≡◌, map, take}
use Rattle.graphql_introspection.specs.Metadata.{location_value}
use Rattle.graphql_introspection.proofs.metadata.location_values.Given as goal

abbrev pub invariant-places : goal.invariant-places
invariant-places l = l.items ≡ map location_value (take l.place-index l.places)
