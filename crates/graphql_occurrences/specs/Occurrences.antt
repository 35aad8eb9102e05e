-- The occurrences of a document: its parts in order, each with what the schema declares there
-- (GraphQL October 2021, 2 Language, 5 Validation). Below an unknown type there are none.
use Rattle.std.specs.Prelude.{List, [], ◌∷◌, ◌++◌, map, Option, Some, None, unwrap_or}
use Rattle.std.specs.List.{flat_map}
use Rattle.std.specs.Option.{option_to_list, is_some}
use Rattle.graphql_text.specs.declared.position.SourcePosition.{SourcePosition}
use Rattle.graphql_values.specs.InputValues.{Placed}
use Rattle.graphql_values.specs.declared.input_value.InputValue.{InputValue, fold-InputValue}
use Rattle.graphql_values.specs.declared.input_value.InputValue.TheOpen.{InputValue-F}
use Rattle.graphql_tree.specs.declared.directive.Directive.{Directive}
use Rattle.graphql_tree.specs.declared.selection.FragmentSpread.{FragmentSpread}
use Rattle.graphql_tree.specs.declared.selection.Selection.{Selection, fold-Selection}
use Rattle.graphql_tree.specs.declared.selection.Selection.TheOpen.{Selection-F, Field-F}
use Rattle.graphql_tree.specs.declared.selection.Selection.TheOpen.{InlineFragment-F}
use Rattle.graphql_tree.specs.declared.document.Operation.{Operation}
use Rattle.graphql_tree.specs.declared.document.Fragment.{Fragment}
use Rattle.graphql_tree.specs.declared.document.Definition.{Definition}
use Rattle.graphql_tree.specs.declared.document.Definition.TheVariants as definition
use Rattle.graphql_tree.specs.Arguments.{Argument}
use Rattle.graphql_tree.specs.Variables.{Variable}
use Rattle.graphql_schema.specs.declared.meta.argument.Argument.{Argument as Declared}
use Rattle.graphql_schema.specs.declared.directive_location.DirectiveLocation.{DirectiveLocation}
use Rattle.graphql_schema.specs.declared.directive_location.DirectiveLocation.TheVariants as
    location
use Rattle.graphql_schema.specs.declared.meta.MetaType.{MetaType}
use Rattle.graphql_names.specs.Names.{Bytes}
use Rattle.graphql_occurrences.specs.DeclaredLookups.{Declarations}
use Rattle.graphql_occurrences.specs.DeclaredLookups.{directive_named}
use Rattle.graphql_occurrences.specs.Lookups.{argument_place, bare_place, directive_arguments}
use Rattle.graphql_occurrences.specs.Lookups.{field_arguments, field_in, field_place, field_type}
use Rattle.graphql_occurrences.specs.Lookups.{item_place, known, location_of, referred, root_of}
use Rattle.graphql_tree.specs.Documents.{arguments_in, variables_in}
use Rattle.graphql_occurrences.specs.Parts.{InputPlace, VariablePart, Part, VariableDefined}
use Rattle.graphql_occurrences.specs.Parts.{Condition, AField, ASpread, AnInline, ADirective, Given}
use Rattle.graphql_occurrences.specs.Parts.{ObjectOf, VariableUsed}

-- the definition of a variable, as a part
abbrev pub variable_part : {S : Type 0} → Variable S → VariablePart S
variable_part v = record { name = v.0; type_of = v.1.var_type; default = v.1.default_value }

module _ {S C : Type 0} (schema : Declarations S C) where
  -- the parts of a value, by where it begins and by its place, where that is known
  abbrev pub OfValue : Type 0
  OfValue = SourcePosition → Option InputPlace → List (Part S C)

  abbrev pub value_layer : InputValue-F S OfValue → OfValue
  value_layer (InputValue-F.Variable name) start here =
      VariableUsed (record { name = name; place = start; at = here }) ∷ []
  value_layer (InputValue-F.List items) start here =
      flat_map (λ x. x.item x.span.start (item_place here)) items
  value_layer (InputValue-F.Object pairs) start here =
      ObjectOf (map (λ p. p.0) pairs)
      ∷ flat_map (λ p. p.1.item p.1.span.start (field_place schema here p.0.item)) pairs
  value_layer _ start here = []

  -- the variables and the objects in a value (2.9 Input Values)
  unfoldable pub value_parts : InputValue S → OfValue
  value_parts = fold-InputValue S OfValue value_layer

  -- the parts of a value at its place
  abbrev pub placed_parts : Option InputPlace → Placed (InputValue S) → List (Part S C)
  placed_parts here v = value_parts v.item v.span.start here

  -- what a field or a directive is given, and what stands in it (2.6 Arguments)
  abbrev pub given_parts : SourcePosition → Option (List (Declared S)) → List (Argument S)
      → List (Part S C)
  given_parts place declared arguments =
      Given (record { place = place; given = arguments; declared = declared })
      ∷ flat_map (λ a. placed_parts (argument_place declared a.0.item) a.1) arguments

  -- 2.12 Directives
  abbrev pub directive_parts : DirectiveLocation → Placed (Directive S) → List (Part S C)
  directive_parts at d =
      let declared = directive_named schema.directives d.item.name.item in
      ADirective (record {
        name = d.item.name.item;
        place = d.span.start;
        location = at;
        declared = declared;
      })
      ∷ given_parts d.span.start (directive_arguments declared) (arguments_in d.item.arguments)

  -- the parts of directives at a location
  abbrev pub directives_parts : DirectiveLocation → Option (List (Placed (Directive S)))
      → List (Part S C)
  directives_parts at ds = flat_map (directive_parts at) (unwrap_or ds [])

  -- the parts of a selection, by the type that it is selected of
  abbrev pub Below : Type 0
  Below = MetaType S C → List (Part S C)

  -- below an unknown type there are none
  abbrev pub parts_under : Option (MetaType S C) → List Below → List (Part S C)
  parts_under (Some parent) selections = flat_map (λ s. s parent) selections
  parts_under None selections = []

  -- 2.5 Fields
  abbrev pub field_layer : Field-F S Below (SourcePosition → Below) (SourcePosition → Below)
      → SourcePosition → Below
  field_layer f place parent =
      let declared = field_in parent f.name.item in
      AField (record {
        name = f.name.item;
        place = place;
        parent = parent;
        declared = declared;
        has_set = is_some f.selection_set;
      })
      ∷ given_parts place (field_arguments declared) (arguments_in f.arguments)
      ++ directives_parts location.Field f.directives
      ++ parts_under (referred schema (field_type declared)) (unwrap_or f.selection_set [])

  -- an inline fragment's condition, else the type around it
  abbrev pub type_inside : MetaType S C → Option (Placed Bytes) → Option (MetaType S C)
  type_inside parent (Some name) = known schema name.item
  type_inside parent None = Some parent

  -- 2.8.2 Inline Fragments
  abbrev pub inline_layer : InlineFragment-F S Below (SourcePosition → Below)
      (SourcePosition → Below) → SourcePosition → Below
  inline_layer i place parent =
      AnInline (record { condition = i.type_condition; place = place; parent = parent })
      ∷ map Condition (option_to_list i.type_condition)
      ++ directives_parts location.InlineFragment i.directives
      ++ parts_under (type_inside parent i.type_condition) i.selection_set

  -- 2.8 Fragments
  abbrev pub spread_parts : Placed (FragmentSpread S) → Below
  spread_parts s parent =
      ASpread (record { name = s.item.name; place = s.span.start; parent = parent })
      ∷ directives_parts location.FragmentSpread s.item.directives

  abbrev pub selection_layer : Selection-F S Below (SourcePosition → Below) (SourcePosition → Below)
      → Below
  selection_layer (Selection-F.Field f) = f.item f.span.start
  selection_layer (Selection-F.FragmentSpread s) = spread_parts s
  selection_layer (Selection-F.InlineFragment i) = i.item i.span.start

  -- the parts of a selection, from the outside in (2.4 Selection Sets)
  unfoldable pub selection_parts : Selection S → Below
  selection_parts = fold-Selection S Below (SourcePosition → Below) (SourcePosition → Below)
      selection_layer field_layer inline_layer

  -- the parts of a set in a type
  abbrev pub set_parts : Option (MetaType S C) → List (Selection S) → List (Part S C)
  set_parts parent selections = parts_under parent (map selection_parts selections)

  -- what always counts: a variable of an operation, with its default and its directives (2.10
  -- Variables)
  abbrev pub variable_parts : Variable S → List (Part S C)
  variable_parts v =
      VariableDefined (variable_part v)
      ∷ flat_map (placed_parts (Some (bare_place v.1.var_type.item)))
      (option_to_list v.1.default_value)
      ++ directives_parts location.VariableDefinition v.1.directives

  -- 2.3 Operations
  abbrev pub operation_parts : Operation S → List (Part S C)
  operation_parts o =
      flat_map variable_parts (variables_in o.variable_definitions)
      ++ directives_parts (location_of o.operation_type) o.directives
      ++ set_parts (root_of schema o.operation_type) o.selection_set

  -- 2.8 Fragments
  abbrev pub fragment_parts : Fragment S → List (Part S C)
  fragment_parts f =
      Condition f.type_condition
      ∷ directives_parts location.FragmentDefinition f.directives
      ++ set_parts (known schema f.type_condition.item) f.selection_set

  -- the parts of an operation or a fragment
  abbrev pub definition_parts : Definition S → List (Part S C)
  definition_parts (definition.Operation o) = operation_parts o.item
  definition_parts (definition.Fragment f) = fragment_parts f.item

  -- 2.2 Document
  unfoldable pub occurrences : List (Definition S) → List (Part S C)
  occurrences = flat_map definition_parts
