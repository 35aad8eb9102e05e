-- The object of the worked rows.
use Rattle.std.specs.Prelude.{[], ◌∷◌, None, codes}
use Rattle.graphql_schema.specs.Types.{reference_to}
use Rattle.graphql_schema.specs.declared.meta.object.ObjectMeta.{ObjectMeta}
use Rattle.graphql_registry.specs.Registries.{declared_field, typename_field}

-- `A`, with `f: String!` and `__typename: String!`
abbrev pub object_a : {S : Type 0} → ObjectMeta S
object_a = record {
  name = codes "A";
  description = None;
  fields = declared_field (codes "f") (reference_to (codes "String")) ∷ typename_field ∷ [];
  interface_names = [];
}
