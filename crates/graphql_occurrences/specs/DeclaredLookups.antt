-- What a schema declares of the parts of a document (GraphQL October 2021, 3.3.1 Root Operation
-- Types, 3.6 Objects, 3.11 List, 4.1 Type Name Introspection).
use Rattle.std.specs.Prelude.{◌&&◌, List, [], Option, Some, None, codes, if◌then◌else◌}
use Rattle.std.specs.Option.{option_map, option_and_then}
use Rattle.std.specs.Str.{bytes_eq}
use Rattle.graphql_schema.specs.declared.directive.DirectiveType.{DirectiveType}
use Rattle.graphql_schema.specs.declared.meta.argument.Argument.{Argument}
use Rattle.graphql_schema.specs.declared.meta.deprecation.DeprecationStatus.TheVariants as status
use Rattle.graphql_schema.specs.declared.meta.field.Field.{Field}
use Rattle.graphql_schema.specs.declared.meta.MetaType.{MetaType}
use Rattle.graphql_schema.specs.Types.{TypeOf, arguments_of, fields_of, reference_to}
use Rattle.graphql_names.specs.Names.{Bytes, named}
pub use Rattle.graphql_schema.specs.Declarations.{Declarations, declarations_of, argument_named}
pub use Rattle.graphql_schema.specs.Declarations.{own_name, type_named}
pub use Rattle.graphql_schema.specs.StandardDirectives.{directive_named}
use Rattle.graphql_schema.specs.TypeTypes.{within_list}
use Rattle.graphql_schema.specs.Declarations.{is_composite}
use Rattle.graphql_tree.specs.declared.document.OperationType.{OperationType}
use Rattle.graphql_tree.specs.declared.document.OperationType.TheVariants as operation

-- the type of a list's items (3.11 List)
abbrev pub item_type : TypeOf → Option TypeOf
item_type t =
    option_map (λ wraps. record { name = t.name; modifiers = wraps }) (within_list t.modifiers)

module _ {S : Type 0} where
  -- `__typename: String!` (4.1 Type Name Introspection)
  abbrev pub typename_field : Field S
  typename_field =
      record {
        name = codes "__typename";
        description = None;
        arguments = None;
        field_type = reference_to (codes "String");
        deprecation_status = status.Current;
      }

  -- the arguments of a field, where the field is known
  abbrev pub field_arguments : Option (Field S) → Option (List (Argument S))
  field_arguments = option_map arguments_of

  -- the type that a field declares
  abbrev pub field_type : Option (Field S) → Option TypeOf
  field_type = option_map (λ f. f.field_type)

  -- the arguments of a directive, where the directive is known
  abbrev pub directive_arguments : Option (DirectiveType S) → Option (List (Argument S))
  directive_arguments = option_map (λ d. d.arguments)

module _ {S C : Type 0} where
  -- the field of this name of an object, an interface or a union, among them `__typename` (5.3.1
  -- Field Selections)
  abbrev pub field_in : MetaType S C → Bytes → Option (Field S)
  field_in m name = if bytes_eq name (codes "__typename")
      && is_composite m then Some typename_field
      else named (λ f. f.name) (fields_of m) name

  -- the same, where the type is known
  abbrev pub field_of : Option (MetaType S C) → Bytes → Option (Field S)
  field_of parent name = option_and_then (λ m. field_in m name) parent

module _ {S C : Type 0} (schema : Declarations S C) where
  -- the type of a name
  abbrev pub known : Bytes → Option (MetaType S C)
  known = type_named schema.types

  -- the type within every wrap of a reference (2.11 Type References)
  abbrev pub referred : Option TypeOf → Option (MetaType S C)
  referred = option_and_then (λ t. known t.name)

  -- the root of an operation, where the schema has it (3.3.1 Root Operation Types)
  abbrev pub root_of : OperationType → Option (MetaType S C)
  root_of operation.Query = known schema.roots.query
  root_of operation.Mutation = option_and_then known schema.roots.mutation
  root_of operation.Subscription = option_and_then known schema.roots.subscription
