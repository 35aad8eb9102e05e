-- Answer lines whose data fit what is selected (GraphQL October 2021, 6.4.3 Value Completion, 6.4.4
-- Handling Field Errors).
use Rattle.std.specs.Prelude.{◌≡◌, ◌⊎◌, List, Option, Ok}
use Rattle.graphql_names.specs.Names.{Bytes}
use Rattle.graphql_values.specs.InputValues.{Placed}
use Rattle.graphql_output_values.specs.declared.value.Value.{Value}
use Rattle.graphql_tree.specs.declared.document.Definition.{Definition}
use Rattle.graphql_tree.specs.declared.document.Operation.{Operation}
use Rattle.graphql_field_results.specs.declared.execution_error.ExecutionError.{ExecutionError}
use Rattle.graphql_answers.specs.Lines.{line_of}
use Rattle.graphql_answers.specs.Responses.{refusal_response, response_of}
use Rattle.graphql_requests.specs.Operations.{mutation_root}
use Rattle.graphql_executor.specs.Answered.{IsExecutable}
use Rattle.graphql_executor.specs.Fitting.{FitsAnswer}
use Rattle.graphql_lines.specs.Request.{Request}
use Rattle.graphql_service.specs.Answers.{Answerer, Asks, IsNoRequest, IsNotExecuted, asked_by}
use Rattle.graphql_service.specs.Texts.{told_of_line, told_of_request}
use Rattle.graphql_lines.specs.declared.refusal.LineRefusal.{LineRefusal}
use Rattle.graphql_requests.specs.declared.graphql_error.GraphQLError.{GraphQLError}

-- by what a service answers a line, on a context
module _ {S C N X : Type 0} (a : Answerer S C N X) (line : Bytes) (old : X) where
  -- the line of a refusal, of the line itself or of its request
  abbrev pub IsRefusalLine : Bytes → Type 0
  IsRefusalLine answered =
      ((refusal : LineRefusal)
      × IsNoRequest a line refusal
      × (answered ≡ line_of (refusal_response (told_of_line a.limit refusal))))
      ⊎ ((refusal : GraphQLError)
      × IsNotExecuted a line refusal
      × (answered ≡ line_of (refusal_response (told_of_request refusal))))

  -- the line of data and errors of the request that the line asks: on the root that its operation is
  -- served on, the data fit what the operation selects, so that no null stands at a place that is
  -- declared without null, and there is an error exactly where something fails
  pub record IsFittingLine (answered : Bytes) : Type 0 where
    pub request : Request
    pub asks : Asks a line request
    pub document : List (Definition S)
    pub operation : Placed (Operation S)
    pub executable : IsExecutable a.scalars (asked_by a line request) document operation
    pub root : Option Bytes
    pub served : mutation_root a.schema.mutation operation.item.operation_type ≡ Ok root
    pub found : Value S
    pub errors : List (ExecutionError S)
    pub is : answered ≡ line_of (response_of a.scalars.answer found errors)
    pub fits : FitsAnswer a.scalars (asked_by a line request) a.resolver document operation.item
        root old found errors
