use Rattle.std.proofs.Common.{◌≡◌, map, take}
use Rattle.graphql_field_results.specs.declared.resolved.Resolved.TheVariants as resolved
use Rattle.graphql_introspection.specs.declared.part.SchemaPart.TheVariants as part
use Rattle.graphql_introspection.proofs.nodes.arguments.Given as goal

abbrev pub invariant-arguments : goal.invariant-arguments
invariant-arguments g l = l.list ≡ map (λ a. resolved.Node (part.InputValue a)) (take l.argument-index l.arguments)
