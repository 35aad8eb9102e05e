-- What a walk over a document enters and leaves, in order, with the types around it (GraphQL
-- October 2021, 2 Language). Below an unknown type there is nothing.
use Rattle.std.specs.Prelude.{List, [], ◌∷◌, ◌++◌, Option, Some, None, unwrap_or}
use Rattle.std.specs.List.{flat_map}
use Rattle.std.specs.Option.{option_map}
use Rattle.graphql_schema.specs.declared.directive_location.DirectiveLocation.{DirectiveLocation}
use Rattle.graphql_schema.specs.declared.directive_location.DirectiveLocation.TheVariants as
    location
use Rattle.graphql_schema.specs.declared.meta.argument.Argument as declared
use Rattle.graphql_schema.specs.declared.meta.MetaType.{MetaType}
use Rattle.graphql_schema.specs.Types.{TypeOf, reference_to}
use Rattle.graphql_names.specs.Names.{Bytes}
use Rattle.graphql_occurrences.specs.DeclaredLookups.{Declarations}
use Rattle.graphql_occurrences.specs.DeclaredLookups.{directive_named}
use Rattle.graphql_occurrences.specs.DeclaredLookups.{own_name}
use Rattle.graphql_text.specs.declared.position.Span.{Span}
use Rattle.graphql_tree.specs.Arguments.{Argument}
use Rattle.graphql_tree.specs.declared.directive.Directive.{Directive}
use Rattle.graphql_tree.specs.declared.document.Definition.{Definition}
use Rattle.graphql_tree.specs.declared.document.Definition.TheVariants as definition
use Rattle.graphql_tree.specs.declared.document.Fragment.{Fragment}
use Rattle.graphql_tree.specs.declared.document.Operation.{Operation}
use Rattle.graphql_tree.specs.declared.selection.Field.{Field}
use Rattle.graphql_tree.specs.declared.selection.FragmentSpread.{FragmentSpread}
use Rattle.graphql_tree.specs.declared.selection.InlineFragment.{InlineFragment}
use Rattle.graphql_tree.specs.declared.selection.Selection.{Selection, fold-Selection}
use Rattle.graphql_tree.specs.declared.selection.Selection.TheOpen.{Selection-F, Field-F}
use Rattle.graphql_tree.specs.declared.selection.Selection.TheOpen.{InlineFragment-F}
use Rattle.graphql_tree.specs.Variables.{Variable}
use Rattle.graphql_values.specs.declared.input_value.InputValue.{InputValue, fold-InputValue}
use Rattle.graphql_values.specs.declared.input_value.InputValue.{out-InputValue}
use Rattle.graphql_values.specs.declared.input_value.InputValue.TheOpen.{InputValue-F}
use Rattle.graphql_values.specs.InputValues.{Placed, Pair}
use Rattle.graphql_occurrences.specs.Lookups.{argument_place, bare_place, directive_arguments}
use Rattle.graphql_occurrences.specs.Lookups.{field_arguments, field_of, field_place, field_type}
use Rattle.graphql_occurrences.specs.Lookups.{item_place, location_of, referred, root_of}
use Rattle.graphql_tree.specs.Documents.{arguments_in, variables_in}
use Rattle.graphql_occurrences.specs.Nodes.{Owner, OfField, OfDirective, AtVariableDefinition}
use Rattle.graphql_occurrences.specs.Nodes.{AtDirective, AtArgument, AtSelectionSet, AtField}
use Rattle.graphql_occurrences.specs.Nodes.{AtFragmentSpread, AtInlineFragment, AtValue}
use Rattle.graphql_occurrences.specs.Nodes.{AtObjectField, Node, AtDocument, AtOperation}
use Rattle.graphql_occurrences.specs.Nodes.{AtFragment, Inner, Event, Enter, Leave, Around, Seen}
use Rattle.graphql_occurrences.specs.Nodes.{placed_as, value_head_layer, field_head}
use Rattle.graphql_occurrences.specs.Nodes.{field_head_layer, inline_head, inline_head_layer}
use Rattle.graphql_occurrences.specs.Nodes.{spread_head, operation_head, fragment_head}
use Rattle.graphql_occurrences.specs.Parts.{InputPlace}

-- the events of something, by the types around it
abbrev pub Within : Type 0 → Type 0 → Type 0
Within S C = Around S C → List (Seen S C)

-- the same, by its place
abbrev pub PlacedWithin : Type 0 → Type 0 → Type 0
PlacedWithin S C = Span → Within S C

module _ {S C : Type 0} where
  abbrev pub seen_event : Around S C → Event S → Seen S C
  seen_event around event = record { around = around; event = event }

  -- a node is entered, then what is within it, and then it is left
  abbrev pub through : Node S → List (Seen S C) → Within S C
  through node inner around = seen_event around (Enter node)
      ∷ (inner ++ seen_event around (Leave node) ∷ [])

  abbrev pub through_each : {A : Type 0} → (A → Within S C) → List A → Within S C
  through_each f xs around = flat_map (λ x. f x around) xs

  -- the same types, and a value stands here
  abbrev pub asked : Around S C → Option InputPlace → Around S C
  asked around input = record { current = around.current; parent = around.parent; input = input }

  -- what is selected is of this type
  abbrev pub selecting : Around S C → Option TypeOf → Around S C
  selecting around current = record { current = current; parent = around.parent; input = None }

  -- the types around a field of this name
  abbrev pub field_around : Around S C → Bytes → Around S C
  field_around around name = selecting around (field_type (field_of around.parent name))

  -- a fragment without a condition keeps the type
  abbrev pub condition_around : Around S C → Option (Placed Bytes) → Around S C
  condition_around around None = around
  condition_around around (Some name) = selecting around (Some (reference_to name.item))

  -- the types around a definition, by the name of its type
  abbrev pub top : Option Bytes → Around S C
  top name = record { current = option_map reference_to name; parent = None; input = None }

  -- nothing where the parent is unknown
  abbrev pub if_known : Option (MetaType S C) → List (Seen S C) → List (Seen S C)
  if_known None inner = []
  if_known (Some m) inner = inner

module _ {S C : Type 0} (schema : Declarations S C) where
  -- 2.9.8 Input Object Values
  abbrev pub pair_layer : Pair (PlacedWithin S C) → Within S C
  pair_layer p around =
      let inside = asked around (field_place schema around.input p.0.item) in
      through (Inner (AtObjectField p.0)) (p.1.item p.1.span inside) inside

  -- 2.9.7 List Value
  abbrev pub item_layer : Placed (PlacedWithin S C) → Within S C
  item_layer x around = x.item x.span (asked around (item_place around.input))

  abbrev pub content_layer : InputValue-F S (PlacedWithin S C) → Within S C
  content_layer (InputValue-F.List items) = through_each item_layer items
  content_layer (InputValue-F.Object pairs) = through_each pair_layer pairs
  content_layer _ = λ around. []

  abbrev pub value_layer : InputValue-F S (PlacedWithin S C) → PlacedWithin S C
  value_layer v span around =
      through (Inner (AtValue (record { item = value_head_layer v; span = span })))
      (content_layer v around) around

  -- 2.9 Input Values
  unfoldable pub value_within : InputValue S → PlacedWithin S C
  value_within = fold-InputValue S (PlacedWithin S C) value_layer

  abbrev pub value_events : Placed (InputValue S) → Within S C
  value_events x = value_within x.item x.span

  abbrev pub item_events : Placed (InputValue S) → Within S C
  item_events x around = value_events x (asked around (item_place around.input))

  abbrev pub pair_events : Pair (InputValue S) → Within S C
  pair_events p around =
      let inside = asked around (field_place schema around.input p.0.item) in
      through (Inner (AtObjectField p.0)) (value_events p.1 inside) inside

  -- what is within a value
  abbrev pub content_of : InputValue-F S (InputValue S) → Within S C
  content_of (InputValue-F.List items) = through_each item_events items
  content_of (InputValue-F.Object pairs) = through_each pair_events pairs
  content_of _ = λ around. []

  abbrev pub content_events : InputValue S → Within S C
  content_events v = content_of (out-InputValue S v)

  -- 2.6 Arguments
  abbrev pub argument_events : Owner → Option (List (declared.Argument S)) → Argument S → Within S C
  argument_events owner declared a around =
      let inside = asked around (argument_place declared a.0.item) in
      through (Inner (AtArgument owner declared a)) (value_events a.1 inside) inside

  abbrev pub arguments_events : Owner → Option (List (declared.Argument S)) → List (Argument S)
      → Within S C
  arguments_events owner declared = through_each (argument_events owner declared)

  -- 2.12 Directives
  abbrev pub directive_events : DirectiveLocation → Placed (Directive S) → Within S C
  directive_events place d around =
      let declared = directive_named schema.directives d.item.name.item in
      through (Inner (AtDirective place declared d))
      (arguments_events (OfDirective d.item.name.item) (directive_arguments declared)
      (arguments_in d.item.arguments) around) around

  -- the events of directives at a location
  abbrev pub directives_events : DirectiveLocation → List (Placed (Directive S)) → Within S C
  directives_events place = through_each (directive_events place)

  -- 2.4 Selection Sets
  abbrev pub set_around : Around S C → Around S C
  set_around around =
      record { current = around.current; parent = referred schema around.current; input = None }

  abbrev pub set_within : Within S C → Within S C
  set_within selections around = if_known (set_around around).parent
      (through (Inner AtSelectionSet) (selections (set_around around)) (set_around around))

  abbrev pub optional_layer : Option (List (Within S C)) → Within S C
  optional_layer None = λ around. []
  optional_layer (Some selections) = set_within (through_each (λ s. s) selections)

  abbrev pub field_layer : Field-F S (Within S C) (PlacedWithin S C) (PlacedWithin S C)
      → PlacedWithin S C
  field_layer f span outer =
      let declared = field_of outer.parent f.name.item in
      let inside = field_around outer f.name.item in
      through (Inner (AtField declared (record { item = field_head_layer f; span = span })))
      (arguments_events (OfField f.name.item) (field_arguments declared) (arguments_in f.arguments)
      inside
      ++ (directives_events location.Field (unwrap_or f.directives []) inside
      ++ optional_layer f.selection_set inside)) inside

  -- 2.8 Fragments
  abbrev pub spread_events : Placed (FragmentSpread S) → Within S C
  spread_events s around =
      through (Inner (AtFragmentSpread (placed_as s (spread_head s.item))))
      (directives_events location.FragmentSpread (unwrap_or s.item.directives []) around) around

  abbrev pub inline_layer : InlineFragment-F S (Within S C) (PlacedWithin S C) (PlacedWithin S C)
      → PlacedWithin S C
  inline_layer i span outer =
      let inside = condition_around outer i.type_condition in
      through (Inner (AtInlineFragment (record { item = inline_head_layer i; span = span })))
      (directives_events location.InlineFragment (unwrap_or i.directives []) inside
      ++ set_within (through_each (λ s. s) i.selection_set) inside) inside

  abbrev pub selection_layer : Selection-F S (Within S C) (PlacedWithin S C) (PlacedWithin S C)
      → Within S C
  selection_layer (Selection-F.Field f) = f.item f.span
  selection_layer (Selection-F.FragmentSpread s) = spread_events s
  selection_layer (Selection-F.InlineFragment i) = i.item i.span

  -- the events of a selection
  unfoldable pub selection_events : Selection S → Within S C
  selection_events = fold-Selection S (Within S C) (PlacedWithin S C) (PlacedWithin S C)
      selection_layer field_layer inline_layer

  -- below an unknown type there is nothing
  abbrev pub set_events : List (Selection S) → Within S C
  set_events xs = set_within (through_each selection_events xs)

  abbrev pub optional_set : Option (List (Selection S)) → Within S C
  optional_set None = λ around. []
  optional_set (Some xs) = set_events xs

  -- 2.5 Fields
  abbrev pub field_events : Placed (Field S) → Within S C
  field_events f outer =
      let declared = field_of outer.parent f.item.name.item in
      let inside = field_around outer f.item.name.item in
      through (Inner (AtField declared (placed_as f (field_head f.item))))
      (arguments_events (OfField f.item.name.item) (field_arguments declared)
      (arguments_in f.item.arguments) inside
      ++ (directives_events location.Field (unwrap_or f.item.directives []) inside
      ++ optional_set f.item.selection_set inside)) inside

  -- 2.8.2 Inline Fragments
  abbrev pub inline_events : Placed (InlineFragment S) → Within S C
  inline_events i outer =
      let inside = condition_around outer i.item.type_condition in
      through (Inner (AtInlineFragment (placed_as i (inline_head i.item))))
      (directives_events location.InlineFragment (unwrap_or i.item.directives []) inside
      ++ set_events i.item.selection_set inside) inside

  abbrev pub default_events : Option (Placed (InputValue S)) → Within S C
  default_events None around = []
  default_events (Some x) around = value_events x around

  -- 2.10 Variables
  abbrev pub variable_events : Variable S → Within S C
  variable_events v around =
      let inside = asked around (Some (bare_place v.1.var_type.item)) in
      through (Inner (AtVariableDefinition v)) (default_events v.1.default_value inside
      ++ directives_events location.VariableDefinition (unwrap_or v.1.directives []) inside)
      inside

  -- 2.3 Operations
  abbrev pub operation_events : Placed (Operation S) → List (Seen S C)
  operation_events o =
      let inside = top (option_map own_name (root_of schema o.item.operation_type)) in
      through (AtOperation (placed_as o (operation_head o.item)))
      (through_each variable_events (variables_in o.item.variable_definitions) inside
      ++ (directives_events (location_of o.item.operation_type) (unwrap_or o.item.directives [])
      inside ++ set_events o.item.selection_set inside)) inside

  -- 2.8 Fragments
  abbrev pub fragment_events : Placed (Fragment S) → List (Seen S C)
  fragment_events f =
      let inside = top (Some f.item.type_condition.item) in
      through (AtFragment (placed_as f (fragment_head f.item)))
      (directives_events location.FragmentDefinition (unwrap_or f.item.directives []) inside
      ++ set_events f.item.selection_set inside) inside

  abbrev pub definition_events : Definition S → List (Seen S C)
  definition_events (definition.Operation o) = operation_events o
  definition_events (definition.Fragment f) = fragment_events f

  -- 2.2 Document
  unfoldable pub events : List (Definition S) → List (Seen S C)
  events document = through (AtDocument document) (flat_map definition_events document) (top None)
