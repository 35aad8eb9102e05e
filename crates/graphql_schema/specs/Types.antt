-- What a schema says of its types (GraphQL October 2021, 3.4 Types).
use Rattle.std.specs.Prelude.{◌++◌, List, [], ◌∷◌, Bool, Option, Some, None, unwrap_or}
use Rattle.graphql_text.specs.declared.text.Text.{Text}
use Rattle.graphql_names.specs.TypeReference.{nullable, is_non_null, outermost}
use Rattle.graphql_names.specs.declared.type_modifier.TypeModifier.{TypeModifier}
use Rattle.graphql_names.specs.declared.type_modifier.TypeModifier.TheVariants as modifier
use Rattle.graphql_names.specs.declared.type_reference.«Type».{«Type»}
use Rattle.graphql_schema.specs.declared.meta.argument.Argument.{Argument}
use Rattle.graphql_schema.specs.declared.meta.enum_value.EnumValue.{EnumValue}
use Rattle.graphql_schema.specs.declared.meta.field.Field.{Field}
use Rattle.graphql_schema.specs.declared.meta.MetaType.{MetaType}
use Rattle.graphql_schema.specs.declared.meta.MetaType.TheVariants as meta

-- the arguments of a field
abbrev pub arguments_of : {S : Type 0} → Field S → List (Argument S)
arguments_of field = unwrap_or field.arguments []

-- a reference to a type that can have any name
abbrev pub TypeOf : Type 0
TypeOf = «Type» Text (List TypeModifier)

-- no `null` is among its values
abbrev pub refuses_null : TypeOf → Bool
refuses_null t = is_non_null (outermost t.modifiers)

-- the reference to the type of a name, without `null`
abbrev pub reference_to : Text → TypeOf
reference_to name = record { name = name; modifiers = modifier.NonNull ∷ [] }

module _ {S C : Type 0} where
  -- the name of a type; what only refers to another type has none
  abbrev pub name_of : MetaType S C → Option Text
  name_of (meta.Scalar m) = Some m.name
  name_of (meta.Object m) = Some m.name
  name_of (meta.Enum m) = Some m.name
  name_of (meta.Interface m) = Some m.name
  name_of (meta.Union m) = Some m.name
  name_of (meta.InputObject m) = Some m.name
  name_of _ = None

  -- the name by which a type is found; what has none has the empty one
  abbrev pub own_name : MetaType S C → Text
  own_name m = unwrap_or (name_of m) []

  abbrev pub description_of : MetaType S C → Option Text
  description_of (meta.Scalar m) = m.description
  description_of (meta.Object m) = m.description
  description_of (meta.Enum m) = m.description
  description_of (meta.Interface m) = m.description
  description_of (meta.Union m) = m.description
  description_of (meta.InputObject m) = m.description
  description_of _ = None

  -- where a scalar's values are specified
  abbrev pub url_of : MetaType S C → Option Text
  url_of (meta.Scalar m) = m.specified_by_url
  url_of _ = None

  -- the fields of an object or an interface
  abbrev pub fields_of : MetaType S C → List (Field S)
  fields_of (meta.Object m) = m.fields
  fields_of (meta.Interface m) = m.fields
  fields_of _ = []

  -- the fields of an input object (3.10 Input Objects)
  abbrev pub input_fields_of : MetaType S C → List (Argument S)
  input_fields_of (meta.InputObject m) = m.input_fields
  input_fields_of _ = []

  -- the interfaces that an object or an interface lists (3.6 Objects, 3.7 Interfaces)
  abbrev pub interfaces_of : MetaType S C → List Text
  interfaces_of (meta.Object m) = m.interface_names
  interfaces_of (meta.Interface m) = m.interface_names
  interfaces_of _ = []

  -- the members of a union (3.8 Unions)
  abbrev pub union_members : MetaType S C → List Text
  union_members (meta.Union m) = m.of_type_names
  union_members _ = []

  -- the values that an enum declares (3.9 Enums)
  abbrev pub values_of : MetaType S C → List EnumValue
  values_of (meta.Enum m) = m.values
  values_of _ = []

  -- what accepts or refuses the values that are given to the type
  abbrev pub check_of : MetaType S C → Option C
  check_of (meta.Scalar m) = Some m.check
  check_of (meta.Enum m) = Some m.check
  check_of (meta.InputObject m) = Some m.check
  check_of _ = None

  -- the reference to the type (2.11 Type References): no null is among its values but where the
  -- metadata adds it
  abbrev pub type_of : MetaType S C → TypeOf
  type_of (meta.Scalar m) = reference_to m.name
  type_of (meta.Object m) = reference_to m.name
  type_of (meta.Enum m) = reference_to m.name
  type_of (meta.Interface m) = reference_to m.name
  type_of (meta.Union m) = reference_to m.name
  type_of (meta.InputObject m) = reference_to m.name
  type_of (meta.List m) = record {
    name = m.of_type.name;
    modifiers = m.of_type.modifiers ++ modifier.List m.expected_size ∷ modifier.NonNull ∷ [];
  }
  type_of (meta.Nullable m) =
      record { name = m.of_type.name; modifiers = nullable m.of_type.modifiers }
  type_of (meta.Placeholder m) = m.of_type
