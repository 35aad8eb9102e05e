use Rattle.std.proofs.Common.{◌≡◌, map, take}
use Rattle.graphql_field_results.specs.declared.resolved.Resolved.TheVariants as resolved
use Rattle.graphql_introspection.specs.declared.part.SchemaPart.TheVariants as part
use Rattle.graphql_introspection.specs.Told.{told_fields}
use Rattle.graphql_introspection.proofs.nodes.fields.Given as goal

abbrev pub invariant-fields : goal.invariant-fields
invariant-fields g l = l.list ≡ map (λ a. resolved.Node (part.Field a)) (told_fields l.include (take l.field-index l.fields))
