-- The places of directives (GraphQL October 2021, 3.13 Directives, DirectiveLocation).
use Rattle.std.specs.Prelude.{ℕ, List, codes}
use Rattle.graphql_schema.specs.declared.directive_location.DirectiveLocation.{DirectiveLocation}
use Rattle.graphql_schema.specs.declared.directive_location.DirectiveLocation.TheVariants as
    location

-- a place in words
abbrev pub words : DirectiveLocation → List ℕ
words location.Query = codes "query"
words location.Mutation = codes "mutation"
words location.Subscription = codes "subscription"
words location.Field = codes "field"
words location.Scalar = codes "scalar"
words location.FragmentDefinition = codes "fragment definition"
words location.FieldDefinition = codes "field definition"
words location.VariableDefinition = codes "variable definition"
words location.FragmentSpread = codes "fragment spread"
words location.InlineFragment = codes "inline fragment"
words location.EnumValue = codes "enum value"
