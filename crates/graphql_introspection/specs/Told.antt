-- Which parts of a schema are told (GraphQL October 2021, 4 Introspection, Reserved Names; 4.2.2
-- The __Type Type; 3.13.3 @deprecated).
use Rattle.std.specs.Prelude.{◌&&◌, ◌||◌, Bool, true, false, not, List, codes}
use Rattle.std.specs.List.{filter}
use Rattle.std.specs.Str.{bytes_eq}
use Rattle.graphql_names.specs.Names.{Bytes}
use Rattle.graphql_schema.specs.declared.meta.deprecation.DeprecationStatus.{DeprecationStatus}
use Rattle.graphql_schema.specs.declared.meta.deprecation.DeprecationStatus.TheVariants as status
use Rattle.graphql_schema.specs.declared.meta.enum_value.EnumValue.{EnumValue}
use Rattle.graphql_schema.specs.declared.meta.field.Field.{Field}
use Rattle.graphql_schema.specs.declared.meta.MetaType.{MetaType}
use Rattle.graphql_schema.specs.Names.{is_reserved}
use Rattle.graphql_schema.specs.Types.{own_name}

abbrev pub is_deprecated : DeprecationStatus → Bool
is_deprecated (status.Deprecated reason) = true
is_deprecated status.Current = false

-- what is not deprecated, and all where what is deprecated is asked for
abbrev pub is_told : Bool → DeprecationStatus → Bool
is_told include s = include || not (is_deprecated s)

-- a field, whose name is none of those that begin with two underscores
abbrev pub is_told_field : {S : Type 0} → Bool → Field S → Bool
is_told_field include f = is_told include f.deprecation_status && not (is_reserved f.name)

abbrev pub told_fields : {S : Type 0} → Bool → List (Field S) → List (Field S)
told_fields include fields = filter (is_told_field include) fields

abbrev pub is_told_value : Bool → EnumValue → Bool
is_told_value include v = is_told include v.deprecation_status

abbrev pub told_values : Bool → List EnumValue → List EnumValue
told_values include values = filter (is_told_value include) values

-- an object that stands for no operations is not told
abbrev pub stands_for_none : Bytes → Bool
stands_for_none name =
    bytes_eq name (codes "_EmptyMutation") || bytes_eq name (codes "_EmptySubscription")

abbrev pub is_told_type : {S C : Type 0} → MetaType S C → Bool
is_told_type m = not (stands_for_none (own_name m))

abbrev pub told_types : {S C : Type 0} → List (MetaType S C) → List (MetaType S C)
told_types types = filter is_told_type types
