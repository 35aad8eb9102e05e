-- The types of the parts of a schema (GraphQL October 2021, 4.2 Schema Introspection).
use Rattle.std.specs.Prelude.{codes}
use Rattle.graphql_names.specs.Names.{Bytes}
use Rattle.graphql_introspection.specs.declared.part.PartKind.{PartKind}
use Rattle.graphql_introspection.specs.declared.part.PartKind.TheVariants as kind
use Rattle.graphql_introspection.specs.declared.part.SchemaPart.{SchemaPart}
use Rattle.graphql_introspection.specs.declared.part.SchemaPart.TheVariants as part

abbrev pub name_of_kind : PartKind → Bytes
name_of_kind kind.Schema = codes "__Schema"
name_of_kind kind.Type = codes "__Type"
name_of_kind kind.Field = codes "__Field"
name_of_kind kind.InputValue = codes "__InputValue"
name_of_kind kind.EnumValue = codes "__EnumValue"
name_of_kind kind.Directive = codes "__Directive"

module _ {S C : Type 0} where
  abbrev pub kind_of : SchemaPart S C → PartKind
  kind_of part.Schema = kind.Schema
  kind_of (part.Type m wraps) = kind.Type
  kind_of (part.Field f) = kind.Field
  kind_of (part.InputValue a) = kind.InputValue
  kind_of (part.EnumValue v) = kind.EnumValue
  kind_of (part.Directive d) = kind.Directive

  -- the name of the type of a part
  abbrev pub part_type_name : SchemaPart S C → Bytes
  part_type_name p = name_of_kind (kind_of p)
