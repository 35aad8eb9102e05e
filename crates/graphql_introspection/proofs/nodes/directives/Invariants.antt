use Rattle.std.proofs.Common.{◌≡◌, map, take}
use Rattle.graphql_field_results.specs.declared.resolved.Resolved.TheVariants as resolved
use Rattle.graphql_introspection.specs.declared.part.SchemaPart.TheVariants as part
use Rattle.graphql_introspection.proofs.nodes.directives.Given as goal

abbrev pub invariant-directives : goal.invariant-directives
invariant-directives g l = l.list ≡ map (λ a. resolved.Node (part.Directive a)) (take l.directive-index l.directives)
