-- The types of introspection, without descriptions (GraphQL October 2021, 4.2 Schema
-- Introspection).
use Rattle.std.specs.Prelude.{◌++◌, ◌∷◌, [], Bool, false, List, map, Some, None, codes}
use Rattle.std.specs.Borrow.{Bor}
use Rattle.graphql_names.specs.Names.{Bytes}
use Rattle.graphql_values.specs.declared.input_value.InputValue.TheVariants as value
use Rattle.graphql_names.specs.declared.type_modifier.TypeModifier.{TypeModifier}
use Rattle.graphql_names.specs.declared.type_modifier.TypeModifier.TheVariants as modifier
use Rattle.graphql_schema.specs.declared.directive_location.DirectiveLocation.{DirectiveLocation}
use Rattle.graphql_schema.specs.declared.directive_location.DirectiveLocation.TheVariants as
    location
use Rattle.graphql_schema.specs.declared.introspection_checks.IntrospectionChecks.{IntrospectionChecks}
use Rattle.graphql_schema.specs.declared.meta.argument.Argument.{Argument}
use Rattle.graphql_schema.specs.declared.meta.deprecation.DeprecationStatus.{DeprecationStatus}
use Rattle.graphql_schema.specs.declared.meta.deprecation.DeprecationStatus.TheVariants as status
use Rattle.graphql_schema.specs.declared.meta.enum_value.EnumValue.{EnumValue}
use Rattle.graphql_schema.specs.declared.meta.field.Field.{Field}
use Rattle.graphql_schema.specs.declared.meta.MetaType.{MetaType}
use Rattle.graphql_schema.specs.declared.meta.MetaType.TheVariants as meta
use Rattle.graphql_schema.specs.declared.meta.type_kind.TypeKind.{TypeKind}
use Rattle.graphql_schema.specs.declared.meta.type_kind.TypeKind.TheVariants as kind
use Rattle.graphql_introspection.specs.declared.part.PartKind.{PartKind}
use Rattle.graphql_introspection.specs.declared.part.PartKind.TheVariants as object
use Rattle.graphql_introspection.specs.declared.rows.FieldForm.{FieldForm}
use Rattle.graphql_introspection.specs.declared.rows.FieldForm.TheVariants as form
use Rattle.graphql_introspection.specs.Names.{kind_name, location_name}
use Rattle.graphql_introspection.specs.Parts.{name_of_kind}

abbrev pub Wraps : Type 0
Wraps = List TypeModifier

-- a field in short: its name, the name of its type, the wraps of that, and its form
abbrev pub Row : Type 0
Row = Bytes × Bytes × Wraps × FieldForm

-- what the code lends for it
abbrev pub row : Bor Bytes × Bor Bytes × Bor Wraps × FieldForm → Row
row lent = (lent.0.now, lent.1.now, lent.2.now, lent.3)

abbrev pub no_wraps : Wraps
no_wraps = []

abbrev pub non_null : Wraps
non_null = modifier.NonNull ∷ []

abbrev pub list : Wraps
list = modifier.NonNull ∷ modifier.List None ∷ []

abbrev pub non_null_list : Wraps
non_null_list = modifier.NonNull ∷ modifier.List None ∷ modifier.NonNull ∷ []

-- 4.2.1 The __Schema Type
abbrev pub schema : List Row
schema =
    (codes "description", codes "String", no_wraps, form.Plain)
    ∷ (codes "types", codes "__Type", non_null_list, form.Plain)
    ∷ (codes "queryType", codes "__Type", non_null, form.Plain)
    ∷ (codes "mutationType", codes "__Type", no_wraps, form.Plain)
    ∷ (codes "subscriptionType", codes "__Type", no_wraps, form.Plain)
    ∷ (codes "directives", codes "__Directive", non_null_list, form.Plain)
    ∷ []

-- 4.2.2 The __Type Type, with `isOneOf` of September 2025
abbrev pub of_type : List Row
of_type =
    (codes "name", codes "String", no_wraps, form.Plain)
    ∷ (codes "description", codes "String", no_wraps, form.Plain)
    ∷ (codes "specifiedByUrl", codes "String", no_wraps, form.Plain)
    ∷ (codes "kind", codes "__TypeKind", non_null, form.Plain)
    ∷ (codes "fields", codes "__Field", list, form.Including)
    ∷ (codes "ofType", codes "__Type", no_wraps, form.Plain)
    ∷ (codes "inputFields", codes "__InputValue", list, form.Plain)
    ∷ (codes "interfaces", codes "__Type", list, form.Plain)
    ∷ (codes "possibleTypes", codes "__Type", list, form.Plain)
    ∷ (codes "enumValues", codes "__EnumValue", list, form.Including)
    ∷ (codes "isOneOf", codes "Boolean", no_wraps, form.Plain)
    ∷ []

-- 4.2.3 The __Field Type
abbrev pub field_rows : List Row
field_rows =
    (codes "name", codes "String", non_null, form.Plain)
    ∷ (codes "description", codes "String", no_wraps, form.Plain)
    ∷ (codes "args", codes "__InputValue", non_null_list, form.Plain)
    ∷ (codes "type", codes "__Type", non_null, form.Plain)
    ∷ (codes "isDeprecated", codes "Boolean", non_null, form.Plain)
    ∷ (codes "deprecationReason", codes "String", no_wraps, form.Plain)
    ∷ []

-- 4.2.4 The __InputValue Type
abbrev pub input_value : List Row
input_value =
    (codes "name", codes "String", non_null, form.Plain)
    ∷ (codes "description", codes "String", no_wraps, form.Plain)
    ∷ (codes "type", codes "__Type", non_null, form.Plain)
    ∷ (codes "defaultValue", codes "String", no_wraps, form.Plain)
    ∷ []

-- 4.2.5 The __EnumValue Type
abbrev pub enum_value : List Row
enum_value =
    (codes "name", codes "String", non_null, form.Plain)
    ∷ (codes "description", codes "String", no_wraps, form.Plain)
    ∷ (codes "isDeprecated", codes "Boolean", non_null, form.Plain)
    ∷ (codes "deprecationReason", codes "String", no_wraps, form.Plain)
    ∷ []

-- 4.2.6 The __Directive Type, with three fields that are deprecated
abbrev pub directive_rows : List Row
directive_rows =
    (codes "name", codes "String", non_null, form.Plain)
    ∷ (codes "description", codes "String", no_wraps, form.Plain)
    ∷ (codes "locations", codes "__DirectiveLocation", non_null_list, form.Plain)
    ∷ (codes "isRepeatable", codes "Boolean", non_null, form.Plain)
    ∷ (codes "args", codes "__InputValue", non_null_list, form.Plain)
    ∷ (codes "onOperation", codes "Boolean", non_null, form.Deprecated)
    ∷ (codes "onFragment", codes "Boolean", non_null, form.Deprecated)
    ∷ (codes "onField", codes "Boolean", non_null, form.Deprecated)
    ∷ []

abbrev pub rows_of : PartKind → List Row
rows_of object.Schema = schema
rows_of object.Type = of_type
rows_of object.Field = field_rows
rows_of object.InputValue = input_value
rows_of object.EnumValue = enum_value
rows_of object.Directive = directive_rows

abbrev pub objects : List PartKind
objects =
    object.Schema ∷ object.Type ∷ object.Field ∷ object.InputValue ∷ object.EnumValue
    ∷ object.Directive ∷ []

-- the values of `__TypeKind`
abbrev pub kinds : List TypeKind
kinds =
    kind.Scalar ∷ kind.Object ∷ kind.Interface ∷ kind.Union ∷ kind.Enum ∷ kind.InputObject
    ∷ kind.List ∷ kind.NonNull ∷ []

-- the values of `__DirectiveLocation`
abbrev pub location_values : List DirectiveLocation
location_values =
    location.Query ∷ location.Mutation ∷ location.Subscription ∷ location.Field
    ∷ location.FragmentDefinition ∷ location.FragmentSpread ∷ location.InlineFragment
    ∷ location.VariableDefinition ∷ location.Scalar ∷ location.FieldDefinition
    ∷ location.EnumValue ∷ []

abbrev pub enum_value_of : Bytes → EnumValue
enum_value_of name = record { name = name; description = None; deprecation_status = status.Current }

abbrev pub kind_value : TypeKind → EnumValue
kind_value k = enum_value_of (kind_name k)

abbrev pub location_value : DirectiveLocation → EnumValue
location_value place = enum_value_of (location_name place)

abbrev pub form_status : FieldForm → DeprecationStatus
form_status form.Deprecated = status.Deprecated (Some (codes "Use the locations array instead"))
form_status form.Plain = status.Current
form_status form.Including = status.Current

-- `of_bool`: the scalar of a truth value
module _ {S : Type 0} (of_bool : Bool → S) where
  -- `includeDeprecated: Boolean = false`
  abbrev pub include_deprecated : Argument S
  include_deprecated =
      record {
        name = codes "includeDeprecated";
        description = None;
        arg_type = record { name = codes "Boolean"; modifiers = [] };
        default_value = Some (value.Scalar (of_bool false));
      }

  abbrev pub form_arguments : FieldForm → List (Argument S)
  form_arguments form.Including = include_deprecated ∷ []
  form_arguments form.Plain = []
  form_arguments form.Deprecated = []

  -- the field of a row
  abbrev pub row_field : Row → Field S
  row_field row =
      record {
        name = row.0;
        description = None;
        arguments = Some (form_arguments row.3);
        field_type = record { name = row.1; modifiers = row.2 };
        deprecation_status = form_status row.3;
      }

module _ {S C : Type 0} where
  abbrev pub object_of : (Bool → S) → PartKind → MetaType S C
  object_of of_bool kind =
      meta.Object (record {
        name = name_of_kind kind;
        description = None;
        fields = map (row_field of_bool) (rows_of kind);
        interface_names = [];
      })

  abbrev pub enumeration : Bytes → List EnumValue → C → MetaType S C
  enumeration name values check =
      meta.Enum (record { name = name; description = None; values = values; check = check })

  -- six objects and two enums, of these checks
  abbrev pub introspection_types : (Bool → S) → IntrospectionChecks C → List (MetaType S C)
  introspection_types of_bool checks =
      map (object_of of_bool) objects
      ++ enumeration (codes "__TypeKind") (map kind_value kinds) checks.type_kind
      ∷ enumeration (codes "__DirectiveLocation") (map location_value location_values)
      checks.directive_location
      ∷ []
