use Rattle.std.proofs.Common.{◌≡◌, map, take}
use Rattle.graphql_introspection.specs.Metadata.{object_of}
use Rattle.graphql_introspection.proofs.metadata.objects.Given as goal

abbrev pub invariant-kinds : goal.invariant-kinds
invariant-kinds g l = l.items ≡ map (object_of g.S.ScalarValue.of_bool) (take l.kind-index l.kinds)
