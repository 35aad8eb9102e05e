-- The plain text of a request is executed in the request's place (GraphQL October 2021,
-- 6.1 Executing Requests).
use Rattle.std.specs.Prelude.{◌≡◌, List, Option}
use Rattle.std.specs.List.{Contains}
use Rattle.std.specs.Str.{chars, IsUtf8}
use Rattle.graphql_names.specs.Names.{Bytes}
use Rattle.graphql_values.specs.InputValues.{Placed}
use Rattle.graphql_values.specs.declared.input_value.InputValue.{InputValue}
use Rattle.graphql_tree.specs.Definitions.{fragments_listed, operations_of}
use Rattle.graphql_tree.specs.Documents.{variables_in}
use Rattle.graphql_tree.specs.Unlocated.{unlocated_document}
use Rattle.graphql_tree.specs.declared.document.Definition.{Definition}
use Rattle.graphql_tree.specs.declared.document.Operation.{Operation}
use Rattle.graphql_written_out.specs.FinalValues.{final_value}
use Rattle.graphql_written_out.specs.Trees.{IsFilled}
use Rattle.graphql_written_out.specs.Written.{written}
use Rattle.graphql_plain_tree.specs.PlainDocuments.{document_of}
use Rattle.graphql_plain_tree.specs.PlainOperations.{plain_operation, variables_used}
use Rattle.graphql_requests.specs.Asked.{Asking, IsExecutable, asking}
use Rattle.graphql_schema.specs.Scalars.{Scalars}

-- each of these names has one value in both, or none in either
abbrev pub AreEqualOn : {S : Type 0} → (Bytes → Option (InputValue S))
    → (Bytes → Option (InputValue S))
    → List Bytes → Type 0
AreEqualOn given others names = (name : Bytes) → Contains names name → others name ≡ given name

-- by what scalars mean
module _ {S C : Type 0} (s : Scalars S C) where
  -- by the values that a request gives for variables: an operation of a document, and one of a
  -- document that is its plain document but for places; where sets stand wherever some were written
  pub record IsPlainPair (given : Bytes → Option (InputValue S)) (document : List (Definition S))
      (o : Operation S) (again : List (Definition S)) (x : Placed (Operation S)) : Type 0 where
    pub filled : IsFilled (written (fragments_listed document) o.selection_set)
    pub same : unlocated_document again
        ≡ unlocated_document
        (document_of (plain_operation s.answer s.of_bool
        (final_value given (variables_in o.variable_definitions)) (fragments_listed document) o))
    pub among : Contains (operations_of again) x

  -- the names of the variables that the plain operation of an operation uses
  abbrev pub used_by : (Bytes → Option (InputValue S)) → List (Definition S) → Operation S
      → List Bytes
  used_by given document o =
      variables_used (plain_operation s.answer s.of_bool
      (final_value given (variables_in o.variable_definitions)) (fragments_listed document) o).set

  -- the same asked with another text: the same operation name, and the same values for variables
  abbrev pub asked_with : Asking S C → Bytes → Asking S C
  asked_with a bytes =
      asking a.schema a.introspection_disabled (chars bytes) a.operation_name a.given

  -- an operation is executed, and in its place, asked with these bytes, one that is its plain
  -- operation but for places
  pub record IsAcceptedAgain (a : Asking S C) (bytes : Bytes) : Type 0 where
    pub document : List (Definition S)
    pub operation : Placed (Operation S)
    pub executable : IsExecutable s a document operation
    pub utf8 : IsUtf8 bytes
    pub again : List (Definition S)
    pub other : Placed (Operation S)
    pub accepted : IsExecutable s (asked_with a bytes) again other
    pub pair : IsPlainPair a.given document operation.item again other
