-- The introspection query (GraphQL October 2021, 4.2 Schema Introspection).
use Rattle.std.specs.Prelude.{◌++◌, [], codes}
use Rattle.graphql_names.specs.Names.{Bytes}
use Rattle.graphql_executor.specs.declared.introspection_query.IntrospectionFormat.{IntrospectionFormat}
use Rattle.graphql_executor.specs.declared.introspection_query.IntrospectionFormat.TheVariants as
    format

-- `d`: the field of the description, or nothing, at each place where there is one
abbrev pub query_with : Bytes → Bytes
query_with d =
    codes "query IntrospectionQuery { __schema { " ++ d
    ++ codes "queryType { name } mutationType { name } subscriptionType { name } types { ...FullType } "
    ++ codes "directives { name " ++ d ++ codes "locations args { ...Input } } } } "
    ++ codes "fragment FullType on __Type { kind name " ++ d
    ++ codes "fields(includeDeprecated: true) { name " ++ d
    ++ codes "args { ...Input } type { ...Ref } isDeprecated deprecationReason } "
    ++ codes "inputFields { ...Input } interfaces { ...Ref } "
    ++ codes "enumValues(includeDeprecated: true) { name " ++ d
    ++ codes "isDeprecated deprecationReason } possibleTypes { ...Ref } } "
    ++ codes "fragment Input on __InputValue { name " ++ d
    ++ codes "type { ...Ref } defaultValue } "
    ++ codes "fragment Ref on __Type "
    ++ codes "{ kind name ofType { kind name ofType { kind name ofType { kind name } } } }"

abbrev pub introspection_query : IntrospectionFormat → Bytes
introspection_query format.All = query_with (codes "description ")
introspection_query format.WithoutDescriptions = query_with []
