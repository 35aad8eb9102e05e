-- The nodes of a document, each by its head: what it is, without what stands within it. And the
-- types around one.
use Rattle.std.specs.Prelude.{List, [], Option, Some, None, map}
use Rattle.graphql_text.specs.declared.text.Text.{Text}
use Rattle.graphql_schema.specs.declared.directive.DirectiveType.{DirectiveType}
use Rattle.graphql_schema.specs.declared.directive_location.DirectiveLocation.{DirectiveLocation}
use Rattle.graphql_schema.specs.declared.meta.argument.Argument as declared
use Rattle.graphql_schema.specs.declared.meta.field.Field as declared_field
use Rattle.graphql_schema.specs.declared.meta.MetaType.{MetaType}
use Rattle.graphql_schema.specs.Types.{TypeOf}
use Rattle.graphql_names.specs.Names.{Bytes}
use Rattle.graphql_tree.specs.Arguments.{Argument}
use Rattle.graphql_tree.specs.declared.directive.Directive.{Directive}
use Rattle.graphql_tree.specs.declared.document.Definition.{Definition}
use Rattle.graphql_tree.specs.declared.document.Fragment.{Fragment}
use Rattle.graphql_tree.specs.declared.document.Operation.{Operation}
use Rattle.graphql_tree.specs.declared.selection.Field.{Field}
use Rattle.graphql_tree.specs.declared.selection.FragmentSpread.{FragmentSpread}
use Rattle.graphql_tree.specs.declared.selection.InlineFragment.{InlineFragment}
use Rattle.graphql_tree.specs.declared.selection.Selection.TheOpen.{Field-F, InlineFragment-F}
use Rattle.graphql_tree.specs.Variables.{Variable}
use Rattle.graphql_values.specs.declared.input_value.InputValue.{InputValue, out-InputValue}
use Rattle.graphql_values.specs.declared.input_value.InputValue.TheOpen.{InputValue-F}
use Rattle.graphql_values.specs.declared.input_value.InputValue.TheVariants as value
use Rattle.graphql_values.specs.InputValues.{Placed}
use Rattle.graphql_occurrences.specs.Parts.{InputPlace}

-- what an argument is given to (2.6 Arguments)
pub data Owner : Type 0 where
  OfField : Bytes → Owner
  OfDirective : Bytes → Owner

-- the head of a node within a definition; of a directive, a field and an argument, with what is
-- declared there
pub data Head (S : Type 0) : Type 0 where
  AtVariableDefinition : Variable S → Head S
  AtDirective : DirectiveLocation → Option (DirectiveType S) → Placed (Directive S) → Head S
  AtArgument : Owner → Option (List (declared.Argument S)) → Argument S → Head S
  AtSelectionSet : Head S
  AtField : Option (declared_field.Field S) → Placed (Field S) → Head S
  AtFragmentSpread : Placed (FragmentSpread S) → Head S
  AtInlineFragment : Placed (InlineFragment S) → Head S
  AtValue : Placed (InputValue S) → Head S
  AtObjectField : Placed Text → Head S

pub data Node (S : Type 0) : Type 0 where
  AtDocument : List (Definition S) → Node S
  AtOperation : Placed (Operation S) → Node S
  AtFragment : Placed (Fragment S) → Node S
  Inner : Head S → Node S

pub data Event (S : Type 0) : Type 0 where
  Enter : Node S → Event S
  Leave : Node S → Event S

-- the types around a node, where they are known: of what is selected, what it is selected of, where
-- a value stands
pub record Around (S C : Type 0) : Type 0 where
  pub current : Option TypeOf
  pub parent : Option (MetaType S C)
  pub input : Option InputPlace

-- an event, and the types around its node
pub record Seen (S C : Type 0) : Type 0 where
  pub around : Around S C
  pub event : Event S

-- whether there is a list, and nothing in it
abbrev pub emptied : {A B : Type 0} → Option (List A) → Option (List B)
emptied None = None
emptied (Some xs) = Some []

-- at the same place
abbrev pub placed_as : {A B : Type 0} → Placed A → B → Placed B
placed_as x y = record { item = y; span = x.span }

module _ {S : Type 0} where
  -- `null` at the same place
  abbrev pub nulled : {A : Type 0} → Placed A → Placed (InputValue S)
  nulled x = placed_as x value.Null

  abbrev pub value_head_layer : {A : Type 0} → InputValue-F S A → InputValue S
  value_head_layer InputValue-F.Null = value.Null
  value_head_layer (InputValue-F.Scalar s) = value.Scalar s
  value_head_layer (InputValue-F.Enum n) = value.Enum n
  value_head_layer (InputValue-F.Variable n) = value.Variable n
  value_head_layer (InputValue-F.List items) = value.List (map nulled items)
  value_head_layer (InputValue-F.Object pairs) = value.Object (map (λ p. (p.0, nulled p.1)) pairs)

  -- a value with `null` for each value within it
  abbrev pub value_head : InputValue S → InputValue S
  value_head v = value_head_layer (out-InputValue S v)

  abbrev pub field_head_layer : {A F I : Type 0} → Field-F S A F I → Field S
  field_head_layer f = record {
    alias = f.alias;
    name = f.name;
    arguments = f.arguments;
    directives = None;
    selection_set = emptied f.selection_set;
  }

  -- a field without its directives and its selections
  abbrev pub field_head : Field S → Field S
  field_head f = record f { directives = None; selection_set = emptied f.selection_set }

  abbrev pub inline_head_layer : {A F I : Type 0} → InlineFragment-F S A F I → InlineFragment S
  inline_head_layer i =
      record { type_condition = i.type_condition; directives = None; selection_set = [] }

  -- an inline fragment without what stands within it
  abbrev pub inline_head : InlineFragment S → InlineFragment S
  inline_head i = record i { directives = None; selection_set = [] }

  -- a spread without its directives
  abbrev pub spread_head : FragmentSpread S → FragmentSpread S
  spread_head s = record s { directives = None }

  -- an operation without what stands within it
  abbrev pub operation_head : Operation S → Operation S
  operation_head o = record o { directives = None; selection_set = [] }

  -- a fragment without what stands within it
  abbrev pub fragment_head : Fragment S → Fragment S
  fragment_head f = record f { directives = None; selection_set = [] }
