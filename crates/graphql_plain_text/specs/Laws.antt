-- Laws of the text of plain operations.
use Rattle.std.specs.Prelude.{◌≡◌, ℕ, Bool, false, List, ◌∷◌, ◌++◌, map, Option, Result}
use Rattle.std.specs.List.{Contains}
use Rattle.std.specs.Str.{chars, IsUtf8}
use Rattle.graphql_names.specs.Names.{Bytes}
use Rattle.graphql_text.specs.declared.position.Span.{Span}
use Rattle.graphql_text.specs.declared.token.Token.{Token}
use Rattle.graphql_text.specs.declared.token.ScalarToken.{ScalarToken}
use Rattle.graphql_text.specs.declared.parse_error.ParseError.{ParseError}
use Rattle.graphql_text.specs.Spelling.{source_of}
use Rattle.graphql_lexer.specs.Within.{within, texts_within}
use Rattle.graphql_scalars.specs.ScalarAnswers.{ScalarAnswer}
use Rattle.graphql_values.specs.declared.input_value.InputValue.{InputValue}
use Rattle.graphql_values.specs.InputValues.{Placed, unplaced, unlocated}
use Rattle.graphql_grammar.specs.Alike.{tokens_of}
use Rattle.graphql_grammar.specs.Input.{At, Located}
use Rattle.graphql_grammar.specs.Relations.{span_of}
use Rattle.graphql_tree.specs.Definitions.{fragments_of}
use Rattle.graphql_tree.specs.Unlocated.{without_place, unlocated_document}
use Rattle.graphql_tree.specs.declared.document.Definition.{Definition}
use Rattle.graphql_tree.specs.declared.document.Definition.TheVariants as definition
use Rattle.graphql_tree.specs.declared.document.Fragment.{Fragment}
use Rattle.graphql_tree.specs.declared.document.Operation.{Operation}
use Rattle.graphql_value_syntax.specs.Values.{ValueOf}
use Rattle.graphql_language.specs.Documents.{DocumentOf}
use Rattle.graphql_language.specs.Texts.{IsCut, IsDocument, OnlyDocument}
use Rattle.graphql_written_out.specs.Trees.{is_empty, IsFilled}
use Rattle.graphql_written_out.specs.Written.{written}
use Rattle.graphql_plain_tree.specs.PlainDocuments.{document_of}
use Rattle.graphql_plain_tree.specs.PlainOperations.{PlainOperation, plain_operation}
use Rattle.graphql_plain_text.specs.Again.{Again}
use Rattle.graphql_plain_text.specs.PlainTexts.{parted_text, plain_text}
use Rattle.graphql_plain_text.specs.SpanTokens.{tokens_within}
use Rattle.graphql_plain_text.specs.SpelledTrees.{ValueIsSpelled, IsSpelledOperation}
use Rattle.graphql_plain_text.specs.Spelt.{AreSpelt}
use Rattle.graphql_plain_text.specs.TreeTokens.{operation_tokens}

-- ---- tokens

-- the source texts of the tokens within a span are those that are told with them
abbrev pub SourcesAreTexts : Type 0
SourcesAreTexts =
    (tokens : List Located) (span : Span)
    → map source_of (tokens_within tokens span) ≡ map (λ x. x.text) (texts_within tokens span)

-- the tokens within the place of some tokens of a text are these
abbrev pub WithinIsThese : Type 0
WithinIsThese =
    (text : List ℕ) (finish : Span) (front : List Located) (a : Located) (us back : List Located)
    → IsCut text (front ++ ((a ∷ us) ++ back)) finish
    → within (front ++ ((a ∷ us) ++ back)) (span_of a us) ≡ a ∷ us

-- spelt tokens that are parted by single spaces are the tokens of that text
abbrev pub PartedIsCut : Type 0
PartedIsCut =
    (xs : List Token) → AreSpelt xs
    → (tokens : List Located) × (finish : Span)
    × IsCut (chars (parted_text xs)) tokens finish × (tokens_of tokens ≡ xs)

module _ (S : Type 0) (reads : ScalarToken → Result S ParseError) (of_bool : Bool → S) where
  -- ---- what tokens spell again

  -- what spells a value spells it wherever it stands
  abbrev pub ValuesAgain : Type 0
  ValuesAgain =
      (is_constant : Bool) (ts : List Located) (x : At (InputValue S))
      → ValueOf S reads of_bool is_constant ts x
      → Again (ValueOf S reads of_bool is_constant) (without_place unlocated) (tokens_of ts)
      (unplaced (unlocated x.item))

  -- a value that some of a text's tokens spell is spelled by the tokens within its place, wherever
  -- these stand
  abbrev pub ValuesOfTextAgain : Type 0
  ValuesOfTextAgain =
      (text : List ℕ) (finish : Span) (front us back : List Located)
      (is_constant : Bool) (x : At (InputValue S)) → IsCut text (front ++ (us ++ back)) finish
      → ValueOf S reads of_bool is_constant us x
      → ValueIsSpelled S reads of_bool (tokens_within (front ++ (us ++ back))) is_constant x

  -- the tokens of a plain operation spell its document wherever they stand
  abbrev pub OperationAgain : Type 0
  OperationAgain =
      (spelled : Span → List Token) (p : PlainOperation S)
      → IsSpelledOperation S reads of_bool spelled p
      → Again (DocumentOf S reads of_bool) unlocated_document (operation_tokens spelled p)
      (unlocated_document (document_of p))

  -- ---- the plain text

  -- the bytes are a text that is a document, and no other; places aside it is this one
  pub record IsTextOf (bytes : Bytes) (document : List (Definition S)) : Type 0 where
    pub utf8 : IsUtf8 bytes
    pub again : List (Definition S)
    pub is : IsDocument S reads of_bool (chars bytes) again
    pub only : OnlyDocument S reads of_bool (chars bytes) again
    pub same : unlocated_document again ≡ unlocated_document document

  -- `source`: the bytes of a text that is a document. In the set of one of its operations, once
  -- fragments are written out, there are selections wherever a set was written. Then the plain
  -- text is the document of the plain operation.
  abbrev pub PlainTextIsDocument : (S → ScalarAnswer) → Type 0
  PlainTextIsDocument answer =
      (source : Bytes) (tokens : List Located) (finish : Span) (document : List (Definition S))
      (o : Placed (Operation S)) (given : Bytes → Option (InputValue S)) → IsUtf8 source
      → IsCut (chars source) tokens finish → IsDocument S reads of_bool (chars source) document
      → Contains document (definition.Operation o)
      → (let fragments : List (Fragment S) = map (λ f. f.item) (fragments_of document) in
      let p : PlainOperation S = plain_operation answer of_bool given fragments o.item in
      is_empty (written fragments o.item.selection_set) ≡ false
      → IsFilled (written fragments o.item.selection_set)
      → IsTextOf (plain_text tokens p) (document_of p))
