-- Plain documents of valid documents (GraphQL October 2021, 5 Validation); and the selection sets
-- of a document, as they are written and once fragments are written out (GraphQL October 2021, 2.4
-- Selection Sets, 2.8 Fragments, 5.5.2.1 Fragment Spread Target Defined).
use Rattle.std.specs.Prelude.{◌≡◌, Bool, true, List, Option, Result, false, length, map}
use Rattle.std.specs.List.{Contains, All}
use Rattle.std.specs.Option.{IsSome}
use Rattle.std.specs.Str.{chars, IsUtf8}
use Rattle.graphql_names.specs.Names.{Bytes}
use Rattle.graphql_text.specs.declared.position.Span.{Span}
use Rattle.graphql_text.specs.declared.token.ScalarToken.{ScalarToken}
use Rattle.graphql_text.specs.declared.parse_error.ParseError.{ParseError}
use Rattle.graphql_values.specs.InputValues.{Placed}
use Rattle.graphql_values.specs.declared.input_value.InputValue.{InputValue}
use Rattle.graphql_grammar.specs.Input.{Located}
use Rattle.graphql_tree.specs.Definitions.{fragments_listed}
use Rattle.graphql_tree.specs.declared.document.Definition.{Definition}
use Rattle.graphql_tree.specs.declared.document.Definition.TheVariants as definition
use Rattle.graphql_tree.specs.declared.document.Operation.{Operation}
use Rattle.graphql_language.specs.Texts.{IsCut, IsDocument, OnlyDocument}
use Rattle.graphql_schema.specs.Scalars.{Scalars}
use Rattle.graphql_schema.specs.Declarations.{Declarations}
use Rattle.graphql_schema.specs.Directives.{has_standard_conditions}
use Rattle.graphql_occurrences.specs.DeclaredLookups.{root_of}
use Rattle.graphql_validation.specs.AllRules.{IsValidAt}
use Rattle.graphql_plain_tree.specs.PlainOperations.{plain_operation}
use Rattle.graphql_plain_text.specs.PlainTexts.{plain_text}
use Rattle.graphql_plain_validity.specs.PlainRequests.{IsPlainDocument}
use Rattle.graphql_plain_validity.specs.VariableLaws.{DefaultsAreConstant}
use Rattle.graphql_plain_validity.specs.Schemas.{TakesTrue}
use Rattle.graphql_tree.specs.declared.document.Fragment.{Fragment}
use Rattle.graphql_language.specs.Documents.{DocumentOf}
use Rattle.graphql_occurrences.specs.Occurrences.{occurrences}
use Rattle.graphql_rules_document.specs.Scopes.{fragment_scopes}
use Rattle.graphql_rules_document.specs.Ends.{EndsWithin}
use Rattle.graphql_written_out.specs.Trees.{Tree, is_empty, IsFilled}
use Rattle.graphql_written_out.specs.Written.{fragment_meant, written}
use Rattle.graphql_rules_document.specs.Counted.{IsSpread, AreKnown}
use Rattle.graphql_plain_validity.specs.WholeSets.{IsWholeSet, definition_set}

-- by what scalars mean, and what a schema declares
module _ {S C : Type 0} (scalars : Scalars S C) (schema : Declarations S C) where
  -- the document is valid, by whether introspection is disabled
  abbrev pub IsValidDocument : Bool → List (Definition S) → Type 0
  IsValidDocument introspection_disabled document =
      IsValidAt scalars (record { schema = schema; document = document }) introspection_disabled

  -- where a document is valid so is its plain document
  abbrev pub PlainDocumentsStayValid : Type 0
  PlainDocumentsStayValid =
      has_standard_conditions schema.directives ≡ true
      → TakesTrue scalars.accepts schema scalars.of_bool
      → (document again : List (Definition S))
      (is : IsPlainDocument scalars.answer scalars.of_bool document again)
      → IsSome (root_of schema is.operation.item.operation_type) → DefaultsAreConstant document
      → (introspection_disabled : Bool) → IsValidDocument introspection_disabled document
      → IsValidDocument introspection_disabled again

  -- the bytes are a text that is a valid document, and no other
  pub record IsValidText (introspection_disabled : Bool) (bytes : Bytes) : Type 0 where
    pub utf8 : IsUtf8 bytes
    pub document : List (Definition S)
    pub is : IsDocument S scalars.reads scalars.of_bool (chars bytes) document
    pub only : OnlyDocument S scalars.reads scalars.of_bool (chars bytes) document
    pub valid : IsValidDocument introspection_disabled document

  -- `source`: the bytes of a text that is a valid document, with one of its operations; then the
  -- plain text is a valid document
  abbrev pub PlainTextsAreValid : Type 0
  PlainTextsAreValid =
      has_standard_conditions schema.directives ≡ true
      → TakesTrue scalars.accepts schema scalars.of_bool
      → (source : Bytes) (tokens : List Located) (finish : Span) (document : List (Definition S))
      (o : Placed (Operation S)) (given : Bytes → Option (InputValue S))
      → IsUtf8 source → IsCut (chars source) tokens finish
      → IsDocument S scalars.reads scalars.of_bool (chars source) document
      → Contains document (definition.Operation o) → IsSome (root_of schema o.item.operation_type)
      → (introspection_disabled : Bool)
      → IsValidDocument introspection_disabled document
      → IsValidText introspection_disabled
      (plain_text tokens
      (plain_operation scalars.answer scalars.of_bool given (fragments_listed document) o.item))

-- the sets of all definitions are whole
abbrev pub AreWhole : {S : Type 0} → List (Definition S) → Type 0
AreWhole document = All (λ x. IsWholeSet (definition_set x)) document

-- a document that tokens spell has a selection in each set that is written
abbrev pub SpelledSetsAreWhole : (S : Type 0) → (ScalarToken → Result S ParseError) → (Bool → S)
    → Type 0
SpelledSetsAreWhole S reads of_bool = (tokens : List Located) (document : List (Definition S))
    → DocumentOf S reads of_bool tokens document → AreWhole document

-- there is a selection in it, and so in each set in it that was written
abbrev pub IsFull : {S : Type 0} → Tree S → Type 0
IsFull set = (is_empty set ≡ false) × IsFilled set

-- the same once fragments are written out, where fields are declared, conditions known, each spread
-- means a fragment, and what is spread ends
abbrev pub WrittenSetsAreFilled : {S C : Type 0} → Declarations S C → Type 0
WrittenSetsAreFilled {S} schema =
    (document : List (Definition S)) (o : Placed (Operation S)) → AreWhole document
    → Contains document (definition.Operation o)
    → IsSome (root_of schema o.item.operation_type) → AreKnown schema (occurrences schema document)
    → ((name : Bytes) → IsSpread (occurrences schema document) name
    → IsSome (fragment_meant (fragments_listed document) name))
    → ((name : Bytes)
    → EndsWithin (fragment_scopes schema document)
    (length (fragment_scopes schema document)) name)
    → IsFull (written (fragments_listed document) o.item.selection_set)
