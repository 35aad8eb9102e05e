-- Laws of plain texts: of requests that are asked for one, of plain texts that are read and asked
-- again, of documents that differ in places alone, and of requests whose texts have the same tokens
-- (GraphQL October 2021, 2.1.7 Ignored Tokens).
use Rattle.std.specs.Prelude.{◌≡◌, ℕ, Option, Bool, false, List, Result, ◌↔◌}
use Rattle.std.specs.declared.cmp.Ordering.{Ordering}
use Rattle.std.specs.Str.{chars, IsUtf8}
use Rattle.graphql_names.specs.Names.{Bytes}
use Rattle.graphql_values.specs.declared.input_value.InputValue.{InputValue}
use Rattle.graphql_rule_errors.specs.declared.rule_error.RuleError.{RuleError}
use Rattle.graphql_schema.specs.declared.root_node.RootNode.{RootNode}
use Rattle.graphql_schema.specs.declared.schema.SchemaType.{SchemaType}
use Rattle.graphql_requests.specs.Asked.{Asking, IsExecutable, asking}
use Rattle.graphql_schema.specs.Scalars.{Scalars}
use Rattle.graphql_plain_requests.specs.PlainRequests.{HasNoPlainText, IsPlainText, IsDocumentAgain}
use Rattle.graphql_plain_requests.specs.PlainRequests.{IsPlainTextWithin, asked_at, IsLarger}
use Rattle.graphql_plain_requests.specs.AcceptedAgain.{AreEqualOn, IsAcceptedAgain, IsPlainPair}
use Rattle.graphql_plain_requests.specs.AcceptedAgain.{used_by}
use Rattle.graphql_plain_requests.specs.StandIns.{TakesStandIn}
use Rattle.graphql_plain_requests.specs.declared.plain_error.PlainError.{PlainError}
use Rattle.graphql_plain_requests.specs.declared.plain_error.PlainError.TheVariants as error
use Rattle.std.specs.List.{Contains}
use Rattle.graphql_text.specs.declared.position.Span.{Span}
use Rattle.graphql_text.specs.declared.token.ScalarToken.{ScalarToken}
use Rattle.graphql_text.specs.declared.parse_error.ParseError.{ParseError}
use Rattle.graphql_scalars.specs.ScalarAnswers.{ScalarAnswer}
use Rattle.graphql_values.specs.InputValues.{Placed}
use Rattle.graphql_grammar.specs.Input.{Located}
use Rattle.graphql_tree.specs.Definitions.{fragments_listed}
use Rattle.graphql_tree.specs.declared.document.Definition.{Definition}
use Rattle.graphql_tree.specs.declared.document.Definition.TheVariants as definition
use Rattle.graphql_tree.specs.declared.document.Operation.{Operation}
use Rattle.graphql_language.specs.Texts.{IsCut, IsDocument}
use Rattle.graphql_written_out.specs.Trees.{is_empty, IsFilled}
use Rattle.graphql_written_out.specs.Written.{written}
use Rattle.graphql_plain_tree.specs.Plain.{size}
use Rattle.graphql_plain_tree.specs.PlainOperations.{PlainOperation, plain_operation}
use Rattle.graphql_plain_text.specs.PlainTexts.{plain_text}
use Rattle.graphql_tree.specs.Unlocated.{unlocated_document}
use Rattle.graphql_schema.specs.Declarations.{Declarations}
use Rattle.graphql_plain_validity.specs.Laws.{IsValidDocument}
use Rattle.graphql_language.specs.Alike.{AreAlike}
use Rattle.graphql_requests.specs.Steps.{IsExecuted, IsRefusedAt, RequestStep}

module _ {S C : Type 0} (s : Scalars S C) where
  -- a request has one plain text, whatever the limit
  abbrev pub PlainTextsAreOne : Type 0
  PlainTextsAreOne = (a : Asking S C) (one other : Bytes) → IsPlainText s a one
      → IsPlainText s a other → one ≡ other

  -- a request that has a plain text within a limit is refused by nothing but want of memory
  abbrev pub PlainAreNotRefused : Type 0
  PlainAreNotRefused =
      (a : Asking S C) (limit : ℕ) (bytes : Bytes) (cmp : RuleError → RuleError → Ordering)
      (why : PlainError)
      → IsPlainTextWithin s a limit bytes → HasNoPlainText s a cmp limit why → why ≡ error.Memory

  -- the operation of a plain document is executed, whichever values are given for variables that no
  -- field of the plain document uses
  abbrev pub UnusedValuesAreNotAsked : Type 0
  UnusedValuesAreNotAsked =
      (given others : Bytes → Option (InputValue S)) (document : List (Definition S))
      (o : Operation S)
      (again : List (Definition S)) (x : Placed (Operation S))
      → IsPlainPair s given document o again x
      → AreEqualOn given others (used_by s given document o)
      → (schema : SchemaType S C) (introspection_disabled : Bool) (text : List ℕ)
      (name : Option Bytes)
      → IsExecutable s (asking schema introspection_disabled text name given) again x
      → IsExecutable s (asking schema introspection_disabled text name others) again x

  -- the plain text of a request over a root node is a document, and no other
  abbrev pub PlainTextsAreDocuments : RootNode S C → Type 0
  PlainTextsAreDocuments root =
      (source : Bytes) (name : Option Bytes) (given : Bytes → Option (InputValue S)) (bytes : Bytes)
      → IsUtf8 source
      → IsPlainText s (asked_at root (chars source) name given) bytes
      → IsDocumentAgain s (asked_at root (chars source) name given) bytes

  -- and where the schema takes the stand-in, it is executed in the request's place
  abbrev pub PlainTextsAreAccepted : RootNode S C → Type 0
  PlainTextsAreAccepted root =
      TakesStandIn s root.schema
      → (source : Bytes) (name : Option Bytes) (given : Bytes → Option (InputValue S))
      (bytes : Bytes) → IsUtf8 source
      → IsPlainText s (asked_at root (chars source) name given) bytes
      → IsAcceptedAgain s (asked_at root (chars source) name given) bytes

module _ (S : Type 0) (reads : ScalarToken → Result S ParseError) (of_bool : Bool → S)
    (answer : S → ScalarAnswer) where
  abbrev Values : Type 0
  Values = Bytes → Option (InputValue S)

  -- the text, cut and read anew, has itself as its plain text, with as many fields and inline
  -- fragments as the plain operation has, whatever values variables have then
  pub record IsPlainStill (bytes : Bytes) (p : PlainOperation S) : Type 0 where
    pub still : (us : List Located) (finish : Span) (again : List (Definition S))
        (x : Placed (Operation S))
        (values : Values) → IsCut (chars bytes) us finish
        → IsDocument S reads of_bool (chars bytes) again
        → Contains again (definition.Operation x)
        → (let q = plain_operation answer of_bool values (fragments_listed again) x.item in
        (plain_text us q ≡ bytes) × (size q.set ≡ size p.set))

  -- `source`: the bytes of a text that is a document. In the set of one of its operations, once
  -- fragments are written out, there are selections wherever a set was written.
  abbrev pub PlainTextStays : Type 0
  PlainTextStays =
      (source : Bytes) (tokens : List Located) (finish : Span) (document : List (Definition S))
      (o : Placed (Operation S)) (values : Values) → IsUtf8 source
      → IsCut (chars source) tokens finish → IsDocument S reads of_bool (chars source) document
      → Contains document (definition.Operation o)
      → is_empty (written (fragments_listed document) o.item.selection_set) ≡ false
      → IsFilled (written (fragments_listed document) o.item.selection_set)
      → (let p = plain_operation answer of_bool values (fragments_listed document) o.item in
      IsPlainStill (plain_text tokens p) p)

-- by what scalars mean, and what a schema declares
module _ {S C : Type 0} (scalars : Scalars S C) (schema : Declarations S C) where
  -- where the one is valid so is the other
  abbrev pub AreValidAlike : Type 0
  AreValidAlike =
      (document again : List (Definition S)) → unlocated_document document
      ≡ unlocated_document again
      → (introspection_disabled : Bool)
      → IsValidDocument scalars schema introspection_disabled document
      → IsValidDocument scalars schema introspection_disabled again

-- by what scalars mean, and what a request asks
module _ {S C : Type 0} (s : Scalars S C) (a : Asking S C) where
  -- these bytes are its plain text within a limit, it has no other, and nothing refuses it but want
  -- of memory: so `plain_request` gives them, or wants memory
  pub record HasThisPlainText (limit : ℕ) (bytes : Bytes) : Type 0 where
    pub is : IsPlainTextWithin s a limit bytes
    pub only : (other : Bytes) → IsPlainText s a other → other ≡ bytes
    pub not_refused : (cmp : RuleError → RuleError → Ordering) (why : PlainError)
        → HasNoPlainText s a cmp limit why → why ≡ error.Memory

-- by what scalars mean, and by two requests
module _ {S C : Type 0} (s : Scalars S C) (a b : Asking S C) where
  -- they are refused at one step, or executed both, with one plain text within each limit
  pub record AreAskedAlike : Type 0 where
    pub refused : (step : RequestStep) → IsRefusedAt s a step ↔ IsRefusedAt s b step
    pub executed : IsExecuted s a ↔ IsExecuted s b
    pub plain : (limit : ℕ) (bytes : Bytes)
        → IsPlainTextWithin s a limit bytes ↔ IsPlainTextWithin s b limit bytes
    pub larger : (limit : ℕ) → IsLarger s a limit ↔ IsLarger s b limit

-- by what scalars mean, and by the root node
module _ {S C : Type 0} (s : Scalars S C) (root : RootNode S C) where
  -- a plain text within a limit, asked again with the same operation name and the same values for
  -- variables, has itself as its plain text within that limit, and nothing else
  abbrev pub PlainRequestsStay : Type 0
  PlainRequestsStay =
      TakesStandIn s root.schema
      → (source : Bytes) (name : Option Bytes) (given : Bytes → Option (InputValue S))
      (limit : ℕ) (bytes : Bytes) → IsUtf8 source
      → IsPlainTextWithin s (asked_at root (chars source) name given) limit bytes
      → HasThisPlainText s (asked_at root (chars bytes) name given) limit bytes

  -- texts of the same tokens, asked with one operation name and the same values for variables
  abbrev pub SameTokensAreAskedAlike : Type 0
  SameTokensAreAskedAlike =
      (one other : Bytes) (name : Option Bytes) (given : Bytes → Option (InputValue S))
      → IsUtf8 one → IsUtf8 other → AreAlike (chars one) (chars other)
      → AreAskedAlike s (asked_at root (chars one) name given)
      (asked_at root (chars other) name given)
