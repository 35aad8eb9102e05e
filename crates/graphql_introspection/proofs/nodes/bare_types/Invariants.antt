use Rattle.std.proofs.Common.{◌≡◌, map, take}
use Rattle.graphql_introspection.specs.Nodes.{bare_type}
use Rattle.graphql_introspection.proofs.nodes.bare_types.Given as goal

abbrev pub invariant-types : goal.invariant-types
invariant-types g l = l.list ≡ map bare_type (map (λ m. m.now) (take l.meta-index l.types))
