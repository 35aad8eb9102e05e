-- A plain operation as a document: what is made anew stands at no place, values and types where
-- they stood (GraphQL October 2021, 2.2 Document).
use Rattle.std.specs.Prelude.{Bool, true, false, List, [], ◌∷◌, Option, Some, None}
use Rattle.std.specs.Option.{option_map}
use Rattle.graphql_names.specs.Names.{Bytes}
use Rattle.graphql_values.specs.InputValues.{Placed, unplaced}
use Rattle.graphql_tree.specs.Arguments.{Argument}
use Rattle.graphql_tree.specs.Variables.{Variable}
use Rattle.graphql_tree.specs.declared.directive.Arguments.{Arguments}
use Rattle.graphql_tree.specs.declared.variable.VariableDefinitions.{VariableDefinitions}
use Rattle.graphql_tree.specs.declared.selection.Selection.{Selection}
use Rattle.graphql_tree.specs.declared.selection.Selection.TheVariants as selection
use Rattle.graphql_tree.specs.declared.document.Operation.{Operation}
use Rattle.graphql_tree.specs.declared.document.Definition.{Definition}
use Rattle.graphql_tree.specs.declared.document.Definition.TheVariants as definition
use Rattle.graphql_written_out.specs.Trees.{Directives, Tree, none, field, inline, is_empty}
use Rattle.graphql_plain_tree.specs.PlainOperations.{PlainOperation}

-- what is made of a list, or nothing where the list is empty
abbrev pub unless_empty : {A B : Type 0} → (List A → B) → List A → Option B
unless_empty f [] = None
unless_empty f (x ∷ xs) = Some (f (x ∷ xs))

-- no list where it is true
abbrev pub list_unless : {A : Type 0} → Bool → List A → Option (List A)
list_unless true xs = None
list_unless false xs = Some xs

-- the key as an alias, if it is one
abbrev pub alias_if : Bool → Bytes → Option (Placed Bytes)
alias_if true key = Some (unplaced key)
alias_if false key = None

module _ {S : Type 0} where
  abbrev pub arguments_as : List (Argument S) → Option (Placed (Arguments S))
  arguments_as = unless_empty (λ xs. unplaced (record { items = xs }))

  -- definitions of variables, if there are any
  abbrev pub definitions_as : List (Variable S) → Option (Placed (VariableDefinitions S))
  definitions_as = unless_empty (λ xs. unplaced (record { items = xs }))

  abbrev pub directives_as : Directives S → Option (Directives S)
  directives_as = unless_empty (λ xs. xs)

  -- the selections of a set; a field has a set where one is not empty
  abbrev pub selections_of : Tree S → List (Selection S)
  selections_of none = []
  selections_of (field head directives below rest) =
      selection.Field (unplaced (record {
        alias = alias_if head.is_aliased head.key;
        name = unplaced head.name;
        arguments = arguments_as head.arguments;
        directives = directives_as directives;
        selection_set = list_unless (is_empty below) (selections_of below);
      })) ∷ selections_of rest
  selections_of (inline on directives below rest) =
      selection.InlineFragment (unplaced (record {
        type_condition = option_map unplaced on;
        directives = directives_as directives;
        selection_set = selections_of below;
      })) ∷ selections_of rest

  -- the operation that a plain one is
  abbrev pub operation_as : PlainOperation S → Operation S
  operation_as p =
      record {
        operation_type = p.operation_type;
        name = option_map unplaced p.name;
        variable_definitions = definitions_as p.variables;
        directives = None;
        selection_set = selections_of p.set;
      }

  -- the document of this one operation
  abbrev pub document_of : PlainOperation S → List (Definition S)
  document_of p = definition.Operation (unplaced (operation_as p)) ∷ []
