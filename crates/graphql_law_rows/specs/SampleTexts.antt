-- The document of the tokens of the two lines, and texts without a token.
use Rattle.std.specs.Prelude.{ℕ, List, [], ◌∷◌, None, codes}
use Rattle.graphql_text.specs.declared.parse_error.ParseError.TheVariants.{UnexpectedEndOfFile}
use Rattle.graphql_grammar.specs.Input.{Fault}
use Rattle.graphql_tree.specs.declared.document.Definition.{Definition}
use Rattle.graphql_tree.specs.declared.document.Definition.TheVariants as definition
use Rattle.graphql_tree.specs.declared.selection.Selection.{Selection}
use Rattle.graphql_tree.specs.declared.selection.Selection.TheVariants as selection
use Rattle.graphql_language.specs.ReadDocuments.{query_of}
use Rattle.graphql_law_rows.specs.SampleTokens.{at, name_token, span}

-- the query of one field
module _ {S : Type 0} where
  abbrev pub field_a : Selection S
  field_a = selection.Field (record {
    item = record {
      alias = None;
      name = record { item = codes "a"; span = name_token.span };
      arguments = None;
      directives = None;
      selection_set = None;
    };
    span = name_token.span;
  })

  abbrev pub tree : List (Definition S)
  tree = definition.Operation (record {
    item = query_of (field_a ∷ []);
    span = span (at 0 0 0) (at 4 1 2);
  }) ∷ []

-- no character, and a blank
abbrev pub nothing : List ℕ
nothing = []

abbrev pub blank : List ℕ
blank = 32 ∷ []

-- the end comes too early
abbrev pub fault : Fault
fault = record { item = UnexpectedEndOfFile; span = span (at 0 0 0) (at 0 0 0) }
