-- Where the values of a document stand, and its directives (GraphQL October 2021, 2.9 Input Values,
-- 3.10 Input Objects, 3.13 Directives).
use Rattle.std.specs.Prelude.{false, List, Option, Some, None}
use Rattle.std.specs.Option.{option_map, option_and_then, is_some}
use Rattle.graphql_schema.specs.declared.directive_location.DirectiveLocation.{DirectiveLocation}
use Rattle.graphql_schema.specs.declared.directive_location.DirectiveLocation.TheVariants as
    location
use Rattle.graphql_schema.specs.declared.meta.argument.Argument.{Argument}
use Rattle.graphql_schema.specs.declared.meta.input_object.InputObjectMeta.{InputObjectMeta}
use Rattle.graphql_schema.specs.declared.meta.MetaType.{MetaType}
use Rattle.graphql_schema.specs.declared.meta.MetaType.TheVariants as meta
use Rattle.graphql_schema.specs.Types.{TypeOf}
use Rattle.graphql_names.specs.Names.{Bytes}
pub use Rattle.graphql_occurrences.specs.DeclaredLookups.{Declarations, declarations_of}
pub use Rattle.graphql_occurrences.specs.DeclaredLookups.{argument_named, item_type, typename_field}
pub use Rattle.graphql_occurrences.specs.DeclaredLookups.{field_arguments, field_type}
pub use Rattle.graphql_occurrences.specs.DeclaredLookups.{directive_arguments, field_in, field_of}
pub use Rattle.graphql_occurrences.specs.DeclaredLookups.{known, referred, root_of}
use Rattle.graphql_tree.specs.declared.document.OperationType.{OperationType}
use Rattle.graphql_tree.specs.declared.document.OperationType.TheVariants as operation
use Rattle.graphql_occurrences.specs.Parts.{InputPlace}

-- a place for values of this type, without a default
abbrev pub bare_place : TypeOf → InputPlace
bare_place t = record { asked = t; has_default = false; is_only_field = false }

-- the place of an item of the list that stands here
abbrev pub item_place : Option InputPlace → Option InputPlace
item_place here = option_map bare_place (option_and_then (λ p. item_type p.asked) here)

-- where the directives of an operation stand
abbrev pub location_of : OperationType → DirectiveLocation
location_of operation.Query = location.Query
location_of operation.Mutation = location.Mutation
location_of operation.Subscription = location.Subscription

module _ {S : Type 0} where
  -- the place of the value of an argument, or of a field of an input object
  abbrev pub input_place_of : Argument S → InputPlace
  input_place_of a =
      record { asked = a.arg_type; has_default = is_some a.default_value; is_only_field = false }

  -- the place of the value of the argument of a name among those declared, where it is known
  abbrev pub argument_place : Option (List (Argument S)) → Bytes → Option InputPlace
  argument_place declared name =
      option_map input_place_of (option_and_then (λ ds. argument_named ds name) declared)

module _ {S C : Type 0} where
  abbrev pub input_object : MetaType S C → Option (InputObjectMeta S C)
  input_object (meta.InputObject m) = Some m
  input_object _ = None

  -- the place of the value of the field of a name of an input object, where it is declared
  abbrev pub place_within : Bytes → InputObjectMeta S C → Option InputPlace
  place_within name m = option_map
      (λ a. record (input_place_of a) { is_only_field = m.exactly_one })
      (argument_named m.input_fields name)

module _ {S C : Type 0} (schema : Declarations S C) where
  -- the input object within every wrap of a reference, where there is one (3.10 Input Objects)
  abbrev pub input_object_within : TypeOf → Option (InputObjectMeta S C)
  input_object_within t = option_and_then input_object (known schema t.name)

  -- the place of a field of the object that stands here, or that is the one item of the list here
  abbrev pub field_place : Option InputPlace → Bytes → Option InputPlace
  field_place here name =
      option_and_then (place_within name) (option_and_then (λ p. input_object_within p.asked) here)
