-- The parts of definitions, each under a name (GraphQL October 2021, 2.2 Document, 2.3 Operations,
-- 2.8 Fragments).
use Rattle.std.specs.Prelude.{ℕ, Bool, false, List, [], ◌∷◌, Option, Result}
use Rattle.graphql_text.specs.declared.token.ScalarToken.{ScalarToken}
use Rattle.graphql_text.specs.declared.parse_error.ParseError.{ParseError}
use Rattle.graphql_tree.specs.declared.directive.Directive.{Directive}
use Rattle.graphql_tree.specs.declared.selection.Selection.{Selection}
use Rattle.graphql_tree.specs.declared.document.OperationType.{OperationType}
use Rattle.graphql_tree.specs.declared.document.Operation.{Operation}
use Rattle.graphql_tree.specs.declared.document.Fragment as fragments
use Rattle.graphql_tree.specs.declared.document.Definition.{Definition}
use Rattle.graphql_grammar.specs.declared.kind.Kind.TheVariants as k
use Rattle.graphql_grammar.specs.Kinds.{only, names, fragment_names}
use Rattle.graphql_grammar.specs.Input.{At, Parser, ◌>>=◌, ◌>>◌, pure}
use Rattle.graphql_grammar.specs.Steps.{when, token, expect, name, name_in, located, optional, all}
use Rattle.graphql_value_syntax.specs.ReadDirectives.{directives}
use Rattle.graphql_language.specs.ReadSelections.{type_condition}
use Rattle.graphql_language.specs.ReadDocuments.{
  operation_words,
  operation_type_of,
  definition_kinds,
  set,
  query_of,
  full_operation,
  definition,
}

abbrev pub operation_type : Parser OperationType
operation_type = token operation_words operation_type_of

abbrev pub operation_name : Parser (Option (At (List ℕ)))
operation_name = optional names (located name)

module _ {S : Type 0} (reads : ScalarToken → Result S ParseError) (of_bool : Bool → S) where
  -- an operation, without its place
  unfoldable pub operation_parts : Parser (Operation S)
  operation_parts = when (only k.CurlyOpen) (do ss ← set reads of_bool; pure (query_of ss))
      (full_operation reads of_bool)

  -- the directives and the selection set that end a definition
  unfoldable pub body : Parser (Option (List (At (Directive S))) × List (Selection S))
  body = do
    ds ← directives reads of_bool false
    ss ← set reads of_bool
    pure (ds, ss)

  -- a fragment, without its place
  unfoldable pub fragment_parts : Parser (fragments.Fragment S)
  fragment_parts = do
    expect k.Fragment
    n ← located (name_in fragment_names)
    c ← type_condition
    ds ← directives reads of_bool false
    ss ← set reads of_bool
    pure (record { name = n; type_condition = c; directives = ds; selection_set = ss })

  -- one definition at least
  unfoldable pub definitions : Parser (List (Definition S))
  definitions = do
    x ← definition reads of_bool
    all definition_kinds (definition reads of_bool) (x ∷ [])
