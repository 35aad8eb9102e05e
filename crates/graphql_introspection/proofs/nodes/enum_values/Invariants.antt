use Rattle.std.proofs.Common.{◌≡◌, map, take}
use Rattle.graphql_field_results.specs.declared.resolved.Resolved.TheVariants as resolved
use Rattle.graphql_introspection.specs.declared.part.SchemaPart.TheVariants as part
use Rattle.graphql_introspection.specs.Told.{told_values}
use Rattle.graphql_introspection.proofs.nodes.enum_values.Given as goal

abbrev pub invariant-values : goal.invariant-values
invariant-values g l = l.list ≡ map (λ a. resolved.Node (part.EnumValue a)) (told_values l.include (take l.value-index l.values))
