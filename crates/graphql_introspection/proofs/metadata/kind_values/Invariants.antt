use Rattle.std.proofs.Common.{◌≡◌, map, take}
use Rattle.graphql_introspection.specs.Metadata.{kind_value}
use Rattle.graphql_introspection.proofs.metadata.kind_values.Given as goal

abbrev pub invariant-kinds : goal.invariant-kinds
invariant-kinds l = l.items ≡ map kind_value (take l.kind-index l.kinds)
