-- How documents are read (GraphQL October 2021, 2.2 Document, 2.3 Operations, 2.8 Fragments).
use Rattle.std.specs.Prelude.{Bool, true, false, List, [], ◌∷◌, None, Result}
use Rattle.graphql_text.specs.declared.token.Token.{Token}
use Rattle.graphql_text.specs.declared.token.ScalarToken.{ScalarToken}
use Rattle.graphql_text.specs.declared.parse_error.ParseError.{ParseError}
use Rattle.graphql_tree.specs.declared.document.OperationType.{OperationType}
use Rattle.graphql_tree.specs.declared.document.OperationType.TheVariants as o
use Rattle.graphql_tree.specs.declared.document.Operation.{Operation}
use Rattle.graphql_tree.specs.declared.document.Fragment as fragments
use Rattle.graphql_tree.specs.declared.document.Definition.{Definition}
use Rattle.graphql_tree.specs.declared.document.Definition.TheVariants as d
use Rattle.graphql_tree.specs.declared.selection.Selection.{Selection}
use Rattle.graphql_grammar.specs.declared.kind.Kind.{Kind}
use Rattle.graphql_grammar.specs.declared.kind.Kind.TheVariants as k
use Rattle.graphql_grammar.specs.Kinds.{Kinds, kind, only, names, fragment_names}
use Rattle.graphql_grammar.specs.Input.{At, Parser, ◌>>=◌, ◌>>◌, pure}
use Rattle.graphql_grammar.specs.Steps.{when, token, expect, name, name_in, located, optional, all}
use Rattle.graphql_grammar.specs.Steps.{finished}
use Rattle.graphql_value_syntax.specs.ReadDirectives.{directives, variable_definitions}
use Rattle.graphql_language.specs.ReadSelections.{selection, selection_set, type_condition}

-- the words that begin an operation
abbrev pub operation_words : Kinds
operation_words k.Query = true
operation_words k.Mutation = true
operation_words k.Subscription = true
operation_words w = false

abbrev pub type_by : Kind → OperationType
type_by k.Mutation = o.Mutation
type_by k.Subscription = o.Subscription
type_by w = o.Query

-- the operation type that a token names
abbrev pub operation_type_of : Token → OperationType
operation_type_of x = type_by (kind x)

-- what a definition begins with
abbrev pub definition_kinds : Kinds
definition_kinds k.CurlyOpen = true
definition_kinds k.Query = true
definition_kinds k.Mutation = true
definition_kinds k.Subscription = true
definition_kinds k.Fragment = true
definition_kinds w = false

-- a selection set alone is a query without name
abbrev pub query_of : {S : Type 0} → List (Selection S) → Operation S
query_of ss = record {
  operation_type = o.Query;
  name = None;
  variable_definitions = None;
  directives = None;
  selection_set = ss;
}

module _ {S : Type 0} (reads : ScalarToken → Result S ParseError) (of_bool : Bool → S) where
  abbrev pub set : Parser (List (Selection S))
  set = selection_set reads of_bool (selection reads of_bool)

  -- an operation that begins with its type
  unfoldable pub full_operation : Parser (Operation S)
  full_operation = do
    t ← token operation_words operation_type_of
    n ← optional names (located name)
    vs ← optional (only k.ParenOpen) (variable_definitions reads of_bool)
    ds ← directives reads of_bool false
    ss ← set
    pure (record {
      operation_type = t;
      name = n;
      variable_definitions = vs;
      directives = ds;
      selection_set = ss;
    })

  unfoldable pub operation : Parser (At (Operation S))
  operation = located (when (only k.CurlyOpen) (do ss ← set; pure (query_of ss)) full_operation)

  unfoldable pub fragment : Parser (At (fragments.Fragment S))
  fragment = located do
    expect k.Fragment
    n ← located (name_in fragment_names)
    c ← type_condition
    ds ← directives reads of_bool false
    ss ← set
    pure (record { name = n; type_condition = c; directives = ds; selection_set = ss })

  -- an operation or a fragment
  unfoldable pub definition : Parser (Definition S)
  definition = when (only k.Fragment) (do x ← fragment; pure (d.Fragment x))
      (do x ← operation; pure (d.Operation x))

  -- one definition at least, and then the end of the text
  unfoldable pub document : Parser (List (Definition S))
  document = do
    x ← definition
    xs ← all definition_kinds definition (x ∷ [])
    finished xs
