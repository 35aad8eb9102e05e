-- What fields, arguments, values of enums and directives answer (GraphQL October 2021, 4.2.3 The
-- __Field Type to 4.2.6 The __Directive Type).
use Rattle.std.specs.Prelude.{◌||◌, Bool, List, codes, if◌then◌else◌}
use Rattle.std.specs.Option.{option_map}
use Rattle.std.specs.Str.{bytes_eq}
use Rattle.graphql_names.specs.Names.{Bytes}
use Rattle.graphql_scalars.specs.ScalarAnswers.{ScalarAnswer}
use Rattle.graphql_values.specs.InputValueText.{input_value_text}
use Rattle.graphql_schema.specs.declared.directive.DirectiveType.{DirectiveType}
use Rattle.graphql_schema.specs.declared.directive_location.DirectiveLocation.TheVariants as
    location
use Rattle.graphql_schema.specs.declared.meta.argument.Argument.{Argument}
use Rattle.graphql_schema.specs.declared.meta.enum_value.EnumValue.{EnumValue}
use Rattle.graphql_schema.specs.declared.meta.field.Field.{Field}
use Rattle.graphql_schema.specs.declared.meta.MetaType.{MetaType}
use Rattle.graphql_schema.specs.Deprecation.{reason_of}
use Rattle.graphql_schema.specs.Types.{arguments_of}
use Rattle.graphql_schema.specs.Directives.{is_place}
use Rattle.graphql_field_results.specs.declared.resolved.Resolved.TheVariants as resolved
use Rattle.graphql_introspection.specs.Leaves.{locations, text, text_or_null, truth}
use Rattle.graphql_introspection.specs.Nodes.{PartAnswer, argument_nodes, referred}
use Rattle.graphql_introspection.specs.Told.{is_deprecated}

-- `of_text`, `of_bool`: the scalar of a text, of a truth value; `types`: those of the schema
module _ {S C : Type 0} (of_text : Bytes → S) (of_bool : Bool → S)
    (types : List (MetaType S C)) where
  -- 4.2.3 The __Field Type
  abbrev pub of_field : Field S → Bytes → PartAnswer S C
  of_field f field =
      if bytes_eq field (codes "name") then text of_text f.name else
      if bytes_eq field (codes "description") then text_or_null of_text f.description else
      if bytes_eq field (codes "args") then argument_nodes (arguments_of f) else
      if bytes_eq field (codes "type") then referred types f.field_type else
      if bytes_eq field (codes "isDeprecated")
      then truth of_bool (is_deprecated f.deprecation_status) else
      if bytes_eq field (codes "deprecationReason")
      then text_or_null of_text (reason_of f.deprecation_status)
      else resolved.Null

-- `answer`: what a scalar answers
module _ {S C : Type 0} (of_text : Bytes → S) (answer : S → ScalarAnswer)
    (types : List (MetaType S C)) where
  -- 4.2.4 The __InputValue Type
  abbrev pub of_input_value : Argument S → Bytes → PartAnswer S C
  of_input_value a field =
      if bytes_eq field (codes "name") then text of_text a.name else
      if bytes_eq field (codes "description") then text_or_null of_text a.description else
      if bytes_eq field (codes "type") then referred types a.arg_type else
      if bytes_eq field (codes "defaultValue")
      then text_or_null of_text (option_map (input_value_text answer) a.default_value)
      else resolved.Null

-- it may stand at a fragment: at its definition, a spread, or one that is inline
abbrev pub is_on_fragment : {S : Type 0} → DirectiveType S → Bool
is_on_fragment d =
    is_place d.locations location.FragmentDefinition || is_place d.locations location.InlineFragment
    || is_place d.locations location.FragmentSpread

module _ {S C : Type 0} (of_text : Bytes → S) (of_bool : Bool → S) where
  -- 4.2.5 The __EnumValue Type
  abbrev pub of_enum_value : EnumValue → Bytes → PartAnswer S C
  of_enum_value v field =
      if bytes_eq field (codes "name") then text of_text v.name else
      if bytes_eq field (codes "description") then text_or_null of_text v.description else
      if bytes_eq field (codes "isDeprecated")
      then truth of_bool (is_deprecated v.deprecation_status) else
      if bytes_eq field (codes "deprecationReason")
      then text_or_null of_text (reason_of v.deprecation_status)
      else resolved.Null

  -- 4.2.6 The __Directive Type
  abbrev pub of_directive : DirectiveType S → Bytes → PartAnswer S C
  of_directive d field =
      if bytes_eq field (codes "name") then text of_text d.name else
      if bytes_eq field (codes "description") then text_or_null of_text d.description else
      if bytes_eq field (codes "locations") then locations of_text d.locations else
      if bytes_eq field (codes "args") then argument_nodes d.arguments else
      if bytes_eq field (codes "isRepeatable") then truth of_bool d.is_repeatable else
      if bytes_eq field (codes "onOperation")
      then truth of_bool (is_place d.locations location.Query) else
      if bytes_eq field (codes "onField")
      then truth of_bool (is_place d.locations location.Field) else
      if bytes_eq field (codes "onFragment") then truth of_bool (is_on_fragment d)
      else resolved.Null
