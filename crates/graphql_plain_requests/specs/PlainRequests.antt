-- The plain text of a request, and why it has none (GraphQL October 2021, 6.1 Executing Requests,
-- 2.3 Operations).
use Rattle.std.specs.Prelude.{◌≡◌, ◌≤◌, ◌<◌, ℕ, List, Option, option_map, string_bytes}
use Rattle.std.specs.HashMap.{get_by_text}
use Rattle.std.specs.Str.{chars}
use Rattle.std.specs.declared.cmp.Ordering.{Ordering}
use Rattle.graphql_names.specs.Names.{Bytes}
use Rattle.graphql_text.specs.declared.position.Span.{Span}
use Rattle.graphql_values.specs.InputValues.{Placed}
use Rattle.graphql_values.specs.declared.input_value.InputValue.{InputValue}
use Rattle.graphql_grammar.specs.Input.{Located}
use Rattle.graphql_tree.specs.Definitions.{fragments_listed}
use Rattle.graphql_tree.specs.Documents.{variables_in}
use Rattle.graphql_tree.specs.declared.document.Definition.{Definition}
use Rattle.graphql_tree.specs.declared.document.Operation.{Operation}
use Rattle.graphql_language.specs.Texts.{IsCut}
use Rattle.graphql_written_out.specs.FinalValues.{final_value}
use Rattle.graphql_written_out.specs.Trees.{IsFilled}
use Rattle.graphql_written_out.specs.Written.{written}
use Rattle.graphql_lines.specs.declared.request.GraphQLRequest.{GraphQLRequest}
use Rattle.graphql_schema.specs.declared.root_node.RootNode.{RootNode}
use Rattle.graphql_rule_errors.specs.declared.rule_error.RuleError.{RuleError}
use Rattle.graphql_plain_tree.specs.Plain.{size}
use Rattle.graphql_plain_tree.specs.PlainDocuments.{document_of}
use Rattle.graphql_plain_tree.specs.PlainOperations.{PlainOperation, plain_operation}
use Rattle.graphql_plain_text.specs.Laws.{IsTextOf}
use Rattle.graphql_plain_text.specs.PlainTexts.{plain_text}
use Rattle.graphql_requests.specs.Asked.{Asking, IsExecutable, IsRefused, asking}
use Rattle.graphql_schema.specs.Scalars.{Scalars}
use Rattle.graphql_requests.specs.declared.graphql_error.GraphQLError.TheVariants as refusal
use Rattle.graphql_plain_requests.specs.declared.plain_error.PlainError.{PlainError}
use Rattle.graphql_plain_requests.specs.declared.plain_error.PlainError.TheVariants as error

-- what is asked of a root node, by the text, the name of an operation, and the values that are
-- given for variables
abbrev pub asked_at : {S C : Type 0} → RootNode S C → List ℕ → Option Bytes
    → (Bytes → Option (InputValue S)) → Asking S C
asked_at root = asking root.schema root.introspection_disabled

-- the same by a request
abbrev pub asked_of : {S C : Type 0} → RootNode S C → GraphQLRequest S → Asking S C
asked_of root request =
    asked_at root (chars (string_bytes request.query))
    (option_map (λ name. string_bytes name) request.operation_name)
    (get_by_text request.variables)

-- by what scalars mean, and what a request asks
module _ {S C : Type 0} (s : Scalars S C) (a : Asking S C) where
  -- the final values of an operation's variables
  abbrev pub values_for : Operation S → Bytes → Option (InputValue S)
  values_for operation = final_value a.given (variables_in operation.variable_definitions)

  -- the plain operation of an operation of a document
  abbrev pub plain_of : List (Definition S) → Operation S → PlainOperation S
  plain_of document operation =
      plain_operation s.answer s.of_bool (values_for operation) (fragments_listed document)
      operation

  -- how many fields and inline fragments it has
  abbrev pub size_of : List (Definition S) → Operation S → ℕ
  size_of document operation = size (plain_of document operation).set

  -- an operation is executed, and these bytes are its plain text: the tokens of its plain
  -- operation, in the spelling of the request's text, parted by single spaces
  pub record IsPlainText (bytes : Bytes) : Type 0 where
    pub document : List (Definition S)
    pub operation : Placed (Operation S)
    pub executable : IsExecutable s a document operation
    pub tokens : List Located
    pub finish : Span
    pub cut : IsCut a.text tokens finish
    pub is : bytes ≡ plain_text tokens (plain_of document operation.item)

  -- an operation is executed, and these bytes are a document of the grammar and no other: places
  -- aside, that of its plain operation; and no set of the operation, fragments written out, is
  -- empty where one was written
  pub record IsDocumentAgain (bytes : Bytes) : Type 0 where
    pub document : List (Definition S)
    pub operation : Placed (Operation S)
    pub executable : IsExecutable s a document operation
    pub is : IsTextOf S s.reads s.of_bool bytes (document_of (plain_of document operation.item))
    pub filled : IsFilled (written (fragments_listed document) operation.item.selection_set)

  -- these bytes are its plain text, with no more fields and inline fragments than the limit
  pub record IsPlainTextWithin (limit : ℕ) (bytes : Bytes) : Type 0 where
    pub plain : IsPlainText bytes
    pub fits : size_of plain.document plain.operation.item ≤ limit

  -- an operation is executed, and it has more
  pub record IsLarger (limit : ℕ) : Type 0 where
    pub document : List (Definition S)
    pub operation : Placed (Operation S)
    pub executable : IsExecutable s a document operation
    pub larger : limit < size_of document operation.item

  -- why there is no plain text: the first step that fails, or else the size; want of memory tells
  -- nothing
  abbrev pub HasNoPlainText : (RuleError → RuleError → Ordering) → ℕ → PlainError → Type 0
  HasNoPlainText cmp limit (error.Refused why) = IsRefused s a cmp why × (why ≡ refusal.Memory → ⊥)
  HasNoPlainText cmp limit error.TooLarge = IsLarger limit
  HasNoPlainText cmp limit error.Memory = Unit {0}
