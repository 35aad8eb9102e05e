-- Leaves as answers: texts, truth values, and the values of `__TypeKind` and `__DirectiveLocation`
-- (GraphQL October 2021, 4.2 Schema Introspection).
use Rattle.std.specs.Prelude.{Bool, List, map, Option}
use Rattle.std.specs.Option.{option_map, option_map_or}
use Rattle.graphql_names.specs.Names.{Bytes}
use Rattle.graphql_schema.specs.declared.directive_location.DirectiveLocation.{DirectiveLocation}
use Rattle.graphql_schema.specs.declared.meta.type_kind.TypeKind.{TypeKind}
use Rattle.graphql_field_results.specs.declared.resolved.Resolved.TheVariants as resolved
use Rattle.graphql_introspection.specs.Names.{kind_name, location_name}
use Rattle.graphql_introspection.specs.Nodes.{PartAnswer}

-- `of_text`: the scalar of a text
module _ {S C : Type 0} (of_text : Bytes → S) where
  abbrev pub text : Bytes → PartAnswer S C
  text t = resolved.Scalar (of_text t)

  abbrev pub text_or_null : Option Bytes → PartAnswer S C
  text_or_null t = option_map_or text t resolved.Null

  abbrev pub kind_or_null : Option TypeKind → PartAnswer S C
  kind_or_null k = text_or_null (option_map kind_name k)

  abbrev pub locations : List DirectiveLocation → PartAnswer S C
  locations places = resolved.List (map (λ place. text (location_name place)) places)

-- `of_bool`: the scalar of a truth value
abbrev pub truth : {S C : Type 0} → (Bool → S) → Bool → PartAnswer S C
truth of_bool b = resolved.Scalar (of_bool b)
