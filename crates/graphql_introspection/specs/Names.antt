-- The values of `__TypeKind` and `__DirectiveLocation` (GraphQL October 2021, 4.2.2 The __Type
-- Type, 4.2.6 The __Directive Type).
use Rattle.std.specs.Prelude.{codes}
use Rattle.graphql_names.specs.Names.{Bytes}
use Rattle.graphql_schema.specs.declared.meta.type_kind.TypeKind.{TypeKind}
use Rattle.graphql_schema.specs.declared.meta.type_kind.TypeKind.TheVariants as kind
use Rattle.graphql_schema.specs.declared.directive_location.DirectiveLocation.{DirectiveLocation}
use Rattle.graphql_schema.specs.declared.directive_location.DirectiveLocation.TheVariants as
    location

abbrev pub kind_name : TypeKind → Bytes
kind_name kind.Scalar = codes "SCALAR"
kind_name kind.Object = codes "OBJECT"
kind_name kind.Interface = codes "INTERFACE"
kind_name kind.Union = codes "UNION"
kind_name kind.Enum = codes "ENUM"
kind_name kind.InputObject = codes "INPUT_OBJECT"
kind_name kind.List = codes "LIST"
kind_name kind.NonNull = codes "NON_NULL"

abbrev pub location_name : DirectiveLocation → Bytes
location_name location.Query = codes "QUERY"
location_name location.Mutation = codes "MUTATION"
location_name location.Subscription = codes "SUBSCRIPTION"
location_name location.Field = codes "FIELD"
location_name location.Scalar = codes "SCALAR"
location_name location.FragmentDefinition = codes "FRAGMENT_DEFINITION"
location_name location.FieldDefinition = codes "FIELD_DEFINITION"
location_name location.VariableDefinition = codes "VARIABLE_DEFINITION"
location_name location.FragmentSpread = codes "FRAGMENT_SPREAD"
location_name location.InlineFragment = codes "INLINE_FRAGMENT"
location_name location.EnumValue = codes "ENUM_VALUE"
