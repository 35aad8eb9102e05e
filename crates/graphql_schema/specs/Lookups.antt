-- The types of a schema by their names (GraphQL October 2021, 3.3 Schema: all types have unique
-- names), and what they refer to.
use Rattle.std.specs.Prelude.{◌++◌, Bool, true, false, List, map, Option}
use Rattle.std.specs.List.{filter, flat_map}
use Rattle.graphql_schema.specs.declared.meta.argument.Argument.{Argument}
use Rattle.graphql_schema.specs.declared.meta.field.Field.{Field}
use Rattle.graphql_schema.specs.declared.meta.MetaType.{MetaType}
use Rattle.graphql_schema.specs.declared.meta.MetaType.TheVariants as meta
use Rattle.graphql_schema.specs.declared.meta.type_kind.TypeKind.{TypeKind}
use Rattle.graphql_schema.specs.declared.meta.type_kind.TypeKind.TheVariants as kind
use Rattle.graphql_schema.specs.Types.{fields_of, input_fields_of, arguments_of}
pub use Rattle.graphql_schema.specs.Types.{own_name, interfaces_of, union_members}
use Rattle.graphql_names.specs.Names.{Bytes, named}

module _ {S C : Type 0} where
  -- the type of a name
  abbrev pub type_named : List (MetaType S C) → Bytes → Option (MetaType S C)
  type_named = named own_name

  -- an object type (3.6 Objects)
  abbrev pub is_object : MetaType S C → Bool
  is_object (meta.Object m) = true
  is_object _ = false

  -- a scalar type (3.5 Scalars)
  abbrev pub is_scalar : MetaType S C → Bool
  is_scalar (meta.Scalar m) = true
  is_scalar _ = false

  -- an interface type (3.7 Interfaces)
  abbrev pub is_interface : MetaType S C → Bool
  is_interface (meta.Interface m) = true
  is_interface _ = false

  abbrev pub is_union : MetaType S C → Bool
  is_union (meta.Union m) = true
  is_union _ = false

  abbrev pub is_enum : MetaType S C → Bool
  is_enum (meta.Enum m) = true
  is_enum _ = false

  abbrev pub is_input_object : MetaType S C → Bool
  is_input_object (meta.InputObject m) = true
  is_input_object _ = false

  abbrev pub is_of_kind : TypeKind → MetaType S C → Bool
  is_of_kind kind.Enum m = is_enum m
  is_of_kind kind.InputObject m = is_input_object m
  is_of_kind kind.Interface m = is_interface m
  is_of_kind kind.Scalar m = is_scalar m
  is_of_kind kind.Object m = is_object m
  is_of_kind kind.Union m = is_union m
  is_of_kind _ m = false

  -- the types in the order of kinds: enums, input objects, interfaces, scalars, objects, unions
  abbrev pub by_kind : List (MetaType S C) → List (MetaType S C)
  by_kind types =
      filter is_enum types ++ filter is_input_object types ++ filter is_interface types
      ++ filter is_scalar types ++ filter is_object types ++ filter is_union types

module _ {S : Type 0} where
  abbrev pub argument_type_name : Argument S → Bytes
  argument_type_name argument = argument.arg_type.name

  abbrev pub field_type_name : Field S → Bytes
  field_type_name field = field.field_type.name

module _ {S C : Type 0} where
  -- the names of the types of a type's fields (3.4.2 Input and Output Types)
  abbrev pub output_names : MetaType S C → List Bytes
  output_names m = map field_type_name (fields_of m)

  -- the names of the types of the arguments of its fields, and of its input fields
  abbrev pub input_names : MetaType S C → List Bytes
  input_names m = flat_map (λ field. map argument_type_name (arguments_of field)) (fields_of m)
      ++ map argument_type_name (input_fields_of m)

  -- the names of all types that it refers to
  abbrev pub references_of : MetaType S C → List Bytes
  references_of m = output_names m ++ input_names m ++ union_members m ++ interfaces_of m
