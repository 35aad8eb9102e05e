-- The trees of a document without their places: each part stands at the empty part at the origin,
-- so that two trees are the same here where they differ in places alone.
use Rattle.std.specs.Prelude.{ℕ, List, Option, map}
use Rattle.std.specs.Option.{option_map}
use Rattle.graphql_values.specs.InputValues.{Placed, unplaced, unlocated}
use Rattle.graphql_tree.specs.declared.directive.Arguments.{Arguments}
use Rattle.graphql_tree.specs.declared.directive.Directive.{Directive}
use Rattle.graphql_tree.specs.declared.variable.VariableDefinition.{VariableDefinition}
use Rattle.graphql_tree.specs.declared.variable.VariableDefinitions.{VariableDefinitions}
use Rattle.graphql_tree.specs.declared.selection.Field.{Field}
use Rattle.graphql_tree.specs.declared.selection.FragmentSpread.{FragmentSpread}
use Rattle.graphql_tree.specs.declared.selection.InlineFragment.{InlineFragment}
use Rattle.graphql_tree.specs.declared.selection.Selection.{Selection, fold-Selection}
use Rattle.graphql_tree.specs.declared.selection.Selection.TheFolds.{fold-Field}
use Rattle.graphql_tree.specs.declared.selection.Selection.TheFolds.{fold-InlineFragment}
use Rattle.graphql_tree.specs.declared.selection.Selection.TheOpen.{Selection-F, Field-F}
use Rattle.graphql_tree.specs.declared.selection.Selection.TheOpen.{InlineFragment-F}
use Rattle.graphql_tree.specs.declared.selection.Selection.TheVariants as selection
use Rattle.graphql_tree.specs.declared.document.Operation.{Operation}
use Rattle.graphql_tree.specs.declared.document.Fragment.{Fragment}
use Rattle.graphql_tree.specs.declared.document.Definition.{Definition}
use Rattle.graphql_tree.specs.declared.document.Definition.TheVariants as definition
use Rattle.graphql_tree.specs.Arguments.{Argument}
use Rattle.graphql_tree.specs.Variables.{Variable}

-- what a function gives of what stands at a place, at no place
abbrev pub without_place : {A B : Type 0} → (A → B) → Placed A → Placed B
without_place f x = unplaced (f x.item)

-- a name without its place
abbrev pub unlocated_name : Placed (List ℕ) → Placed (List ℕ)
unlocated_name = without_place (λ n. n)

module _ {S : Type 0} where
  -- an argument without its places
  abbrev pub unlocated_argument : Argument S → Argument S
  unlocated_argument a = (unlocated_name a.0, without_place unlocated a.1)

  -- 2.6 Arguments
  abbrev pub unlocated_arguments : Arguments S → Arguments S
  unlocated_arguments a = record { items = map unlocated_argument a.items }

  -- 2.12 Directives
  abbrev pub unlocated_directive : Directive S → Directive S
  unlocated_directive d = record {
    name = unlocated_name d.name;
    arguments = option_map (without_place unlocated_arguments) d.arguments;
  }

  -- directives without their places
  abbrev pub unlocated_directives : Option (List (Placed (Directive S)))
      → Option (List (Placed (Directive S)))
  unlocated_directives = option_map (map (without_place unlocated_directive))

  -- 2.10 Variables
  abbrev pub unlocated_variable : VariableDefinition S → VariableDefinition S
  unlocated_variable v = record {
    var_type = without_place (λ t. t) v.var_type;
    default_value = option_map (without_place unlocated) v.default_value;
    directives = unlocated_directives v.directives;
  }

  -- definitions of variables without their places
  abbrev pub unlocated_variables : VariableDefinitions S → VariableDefinitions S
  unlocated_variables v = record {
    items = map
        (λ (x : Variable S). (unlocated_name x.0, unlocated_variable x.1)) v.items;
  }

  -- 2.8 Fragments
  abbrev pub unlocated_spread : FragmentSpread S → FragmentSpread S
  unlocated_spread s =
      record { name = unlocated_name s.name; directives = unlocated_directives s.directives }

  -- one layer of a selection, of what stands within it having no places
  abbrev pub unlocated_layer : Selection-F S (Selection S) (Field S) (InlineFragment S)
      → Selection S
  unlocated_layer (Selection-F.Field f) = selection.Field (unplaced f.item)
  unlocated_layer (Selection-F.FragmentSpread s) =
      selection.FragmentSpread (without_place unlocated_spread s)
  unlocated_layer (Selection-F.InlineFragment i) = selection.InlineFragment (unplaced i.item)

  abbrev pub unlocated_field_layer : Field-F S (Selection S) (Field S) (InlineFragment S) → Field S
  unlocated_field_layer f =
      record {
        alias = option_map unlocated_name f.alias;
        name = unlocated_name f.name;
        arguments = option_map (without_place unlocated_arguments) f.arguments;
        directives = unlocated_directives f.directives;
        selection_set = f.selection_set;
      }

  abbrev pub unlocated_inline_layer : InlineFragment-F S (Selection S) (Field S) (InlineFragment S)
      → InlineFragment S
  unlocated_inline_layer i = record {
    type_condition = option_map unlocated_name i.type_condition;
    directives = unlocated_directives i.directives;
    selection_set = i.selection_set;
  }

  -- 2.4 Selection Sets
  abbrev pub unlocated_selection : Selection S → Selection S
  unlocated_selection = fold-Selection S (Selection S) (Field S) (InlineFragment S) unlocated_layer
      unlocated_field_layer unlocated_inline_layer

  -- 2.5 Fields
  abbrev pub unlocated_field : Field S → Field S
  unlocated_field = fold-Field S (Selection S) (Field S) (InlineFragment S) unlocated_layer
      unlocated_field_layer unlocated_inline_layer

  -- 2.8.2 Inline Fragments
  abbrev pub unlocated_inline : InlineFragment S → InlineFragment S
  unlocated_inline = fold-InlineFragment S (Selection S) (Field S) (InlineFragment S)
      unlocated_layer unlocated_field_layer unlocated_inline_layer

  -- 2.3 Operations
  abbrev pub unlocated_operation : Operation S → Operation S
  unlocated_operation o =
      record {
        operation_type = o.operation_type;
        name = option_map unlocated_name o.name;
        variable_definitions = option_map (without_place unlocated_variables) o.variable_definitions;
        directives = unlocated_directives o.directives;
        selection_set = map unlocated_selection o.selection_set;
      }

  -- 2.8 Fragments
  abbrev pub unlocated_fragment : Fragment S → Fragment S
  unlocated_fragment f =
      record {
        name = unlocated_name f.name;
        type_condition = unlocated_name f.type_condition;
        directives = unlocated_directives f.directives;
        selection_set = map unlocated_selection f.selection_set;
      }

  -- 2.2 Document
  abbrev pub unlocated_definition : Definition S → Definition S
  unlocated_definition (definition.Operation o) =
      definition.Operation (without_place unlocated_operation o)
  unlocated_definition (definition.Fragment f) =
      definition.Fragment (without_place unlocated_fragment f)

  -- a document without its places
  abbrev pub unlocated_document : List (Definition S) → List (Definition S)
  unlocated_document = map unlocated_definition
