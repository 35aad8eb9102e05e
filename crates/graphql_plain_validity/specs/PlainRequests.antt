-- Documents that are plain operations of other documents (GraphQL October 2021, 2.2 Document).
use Rattle.std.specs.Prelude.{◌≡◌, Bool, List, Option}
use Rattle.std.specs.List.{Contains}
use Rattle.graphql_names.specs.Names.{Bytes}
use Rattle.graphql_scalars.specs.ScalarAnswers.{ScalarAnswer}
use Rattle.graphql_values.specs.InputValues.{Placed}
use Rattle.graphql_values.specs.declared.input_value.InputValue.{InputValue}
use Rattle.graphql_tree.specs.Definitions.{fragments_listed}
use Rattle.graphql_tree.specs.Unlocated.{unlocated_document}
use Rattle.graphql_tree.specs.declared.document.Definition.{Definition}
use Rattle.graphql_tree.specs.declared.document.Definition.TheVariants as definition
use Rattle.graphql_tree.specs.declared.document.Operation.{Operation}
use Rattle.graphql_written_out.specs.Trees.{IsFilled}
use Rattle.graphql_written_out.specs.Written.{written}
use Rattle.graphql_plain_tree.specs.PlainDocuments.{document_of}
use Rattle.graphql_plain_tree.specs.PlainOperations.{PlainOperation, plain_operation}

-- `answer`: what a scalar answers; `of_bool`: the scalar of a boolean
module _ {S : Type 0} (answer : S → ScalarAnswer) (of_bool : Bool → S) where
  -- places aside `again` is the plain operation of one of a document's operations, in which, once
  -- its fragments are written out, there are selections wherever a set was written
  pub record IsPlainDocument (document again : List (Definition S)) : Type 0 where
    pub operation : Placed (Operation S)
    pub among : Contains document (definition.Operation operation)
    pub filled : IsFilled (written (fragments_listed document) operation.item.selection_set)
    -- the final values of its variables
    pub given : Bytes → Option (InputValue S)
    pub same : unlocated_document again
        ≡ unlocated_document (document_of
        (plain_operation answer of_bool given (fragments_listed document) operation.item))

  -- that plain operation
  abbrev pub plain_of : {document again : List (Definition S)} → IsPlainDocument document again
      → PlainOperation S
  plain_of {document} is =
      plain_operation answer of_bool is.given (fragments_listed document) is.operation.item
