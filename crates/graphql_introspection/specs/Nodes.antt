-- Parts of a schema as answers, and lists of them (GraphQL October 2021, 4.2 Schema Introspection).
use Rattle.std.specs.Prelude.{List, [], map, Option}
use Rattle.std.specs.Option.{option_map_or}
use Rattle.std.specs.List.{filter_map}
use Rattle.graphql_names.specs.Names.{Bytes}
use Rattle.graphql_names.specs.declared.type_modifier.TypeModifier.{TypeModifier}
use Rattle.graphql_schema.specs.declared.directive.DirectiveType.{DirectiveType}
use Rattle.graphql_schema.specs.declared.meta.argument.Argument.{Argument}
use Rattle.graphql_schema.specs.declared.meta.enum_value.EnumValue.{EnumValue}
use Rattle.graphql_schema.specs.declared.meta.field.Field.{Field}
use Rattle.graphql_schema.specs.declared.meta.MetaType.{MetaType}
use Rattle.graphql_schema.specs.Types.{TypeOf}
use Rattle.graphql_schema.specs.Lookups.{type_named}
use Rattle.graphql_field_results.specs.declared.resolved.Resolved.{Resolved}
use Rattle.graphql_field_results.specs.declared.resolved.Resolved.TheVariants as resolved
use Rattle.graphql_introspection.specs.declared.part.SchemaPart.{SchemaPart}
use Rattle.graphql_introspection.specs.declared.part.SchemaPart.TheVariants as part

abbrev pub PartAnswer : Type 0 → Type 0 → Type 0
PartAnswer S C = Resolved S (SchemaPart S C)

module _ {S C : Type 0} where
  -- a type within wraps, the innermost first
  abbrev pub wrapped : List TypeModifier → MetaType S C → PartAnswer S C
  wrapped wraps m = resolved.Node (part.Type m wraps)

  -- a type without wraps: null is among its values
  abbrev pub bare_type : MetaType S C → PartAnswer S C
  bare_type m = wrapped [] m

  abbrev pub bare_or_null : Option (MetaType S C) → PartAnswer S C
  bare_or_null m = option_map_or bare_type m resolved.Null

  abbrev pub bare_types : List (MetaType S C) → PartAnswer S C
  bare_types ms = resolved.List (map bare_type ms)

  abbrev pub argument_nodes : List (Argument S) → PartAnswer S C
  argument_nodes xs = resolved.List (map (λ a. resolved.Node (part.InputValue a)) xs)

  abbrev pub field_nodes : List (Field S) → PartAnswer S C
  field_nodes xs = resolved.List (map (λ f. resolved.Node (part.Field f)) xs)

  abbrev pub enum_values : List EnumValue → PartAnswer S C
  enum_values xs = resolved.List (map (λ v. resolved.Node (part.EnumValue v)) xs)

  abbrev pub directives : List (DirectiveType S) → PartAnswer S C
  directives xs = resolved.List (map (λ d. resolved.Node (part.Directive d)) xs)

-- `types`: those of the schema
module _ {S C : Type 0} (types : List (MetaType S C)) where
  -- the type that a reference means, within its wraps
  abbrev pub referred : TypeOf → PartAnswer S C
  referred t = option_map_or (wrapped t.modifiers) (type_named types t.name) resolved.Null

  -- the types of these names
  abbrev pub named_types : List Bytes → PartAnswer S C
  named_types names = bare_types (filter_map (type_named types) names)
