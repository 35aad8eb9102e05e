-- What the parts of a schema answer, field by field (GraphQL October 2021, 4.2 Schema
-- Introspection): a field that the type of a part lacks is null.
use Rattle.std.specs.Prelude.{Bool, List, Option, codes, if◌then◌else◌}
use Rattle.std.specs.Option.{option_and_then}
use Rattle.std.specs.Str.{bytes_eq}
use Rattle.graphql_names.specs.Names.{Bytes}
use Rattle.graphql_scalars.specs.ScalarAnswers.{ScalarAnswer}
use Rattle.graphql_schema.specs.declared.meta.MetaType.{MetaType}
use Rattle.graphql_schema.specs.declared.schema.SchemaType.{SchemaType}
use Rattle.graphql_schema.specs.Lookups.{by_kind, type_named}
use Rattle.graphql_arguments.specs.ArgumentValues.{Given}
use Rattle.graphql_field_results.specs.declared.resolved.Resolved.TheVariants as resolved
use Rattle.graphql_introspection.specs.declared.part.SchemaPart.{SchemaPart}
use Rattle.graphql_introspection.specs.declared.part.SchemaPart.TheVariants as part
use Rattle.graphql_introspection.specs.Given.{name_asked}
use Rattle.graphql_introspection.specs.Leaves.{text_or_null}
use Rattle.graphql_introspection.specs.MemberAnswers.{of_directive, of_enum_value}
use Rattle.graphql_introspection.specs.MemberAnswers.{of_field, of_input_value}
use Rattle.graphql_introspection.specs.Nodes.{PartAnswer, bare_or_null, bare_types, directives}
use Rattle.graphql_introspection.specs.Told.{told_types}
use Rattle.graphql_introspection.specs.TypeAnswers.{of_type}

module _ {S C : Type 0} where
  -- the type of a name, if there is one
  abbrev pub type_found : List (MetaType S C) → Option Bytes → PartAnswer S C
  type_found types name = bare_or_null (option_and_then (type_named types) name)

  -- 4.2.1 The __Schema Type
  abbrev pub of_schema : (Bytes → S) → SchemaType S C → Bytes → PartAnswer S C
  of_schema of_text schema field =
      if bytes_eq field (codes "description") then text_or_null of_text schema.description else
      if bytes_eq field (codes "types") then bare_types (told_types (by_kind schema.types)) else
      if bytes_eq field (codes "queryType")
      then bare_or_null (type_named schema.types schema.query) else
      if bytes_eq field (codes "mutationType") then type_found schema.types schema.mutation else
      if bytes_eq field (codes "subscriptionType")
      then type_found schema.types schema.subscription else
      if bytes_eq field (codes "directives") then directives schema.directives else resolved.Null

  -- what is answered to `__type`
  abbrev pub type_asked : (S → ScalarAnswer) → List (MetaType S C) → Given S → PartAnswer S C
  type_asked answer types given = type_found types (name_asked answer given)

-- `of_text`, `of_bool`: the scalar of a text, of a truth value; `answer`: what a scalar answers
module _ {S C : Type 0} (of_text : Bytes → S) (of_bool : Bool → S) (answer : S → ScalarAnswer)
    (schema : SchemaType S C) where
  -- what a part answers for a field
  abbrev pub part_answer : SchemaPart S C → Bytes → Given S → PartAnswer S C
  part_answer part.Schema field given = of_schema of_text schema field
  part_answer (part.Type m wraps) field given =
      of_type of_text of_bool answer schema.types m wraps field given
  part_answer (part.Field f) field given = of_field of_text of_bool schema.types f field
  part_answer (part.InputValue a) field given = of_input_value of_text answer schema.types a field
  part_answer (part.EnumValue v) field given = of_enum_value of_text of_bool v field
  part_answer (part.Directive d) field given = of_directive of_text of_bool d field
