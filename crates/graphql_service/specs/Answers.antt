-- What a line is answered, and what it changes (GraphQL October 2021, 6.1 Executing Requests, 7.1
-- Response Format).
use Rattle.std.specs.Prelude.{◌≡◌, ◌⊎◌, ◌++◌, ◌<◌, ◌≤◌, ℕ, Bool, List, length, Option, Some, None}
use Rattle.std.specs.Prelude.{IsSome, option_and_then}
use Rattle.std.specs.declared.cmp.Ordering.{Ordering}
use Rattle.std.specs.Str.{chars}
use Rattle.serde_json.specs.Find.{get_member}
use Rattle.graphql_names.specs.Names.{Bytes}
use Rattle.graphql_values.specs.declared.input_value.InputValue.{InputValue}
use Rattle.graphql_output_values.specs.declared.value.Value.{Value}
use Rattle.graphql_schema.specs.declared.schema.SchemaType.{SchemaType}
use Rattle.graphql_field_results.specs.declared.execution_error.ExecutionError.{ExecutionError}
use Rattle.graphql_rule_errors.specs.declared.rule_error.RuleError.{RuleError}
use Rattle.graphql_executor.specs.Requests.{GraphQLError, Scalars}
use Rattle.graphql_executor.specs.Requests as request_error
use Rattle.graphql_lines.specs.declared.refusal.LineRefusal.{LineRefusal}
use Rattle.graphql_lines.specs.declared.refusal.LineRefusal.TheVariants.{LineTooLong, NotARequest}
use Rattle.graphql_lines.specs.declared.refusal.LineRefusal.TheVariants.{BadNumber, Memory}
use Rattle.graphql_executor.specs.Answered.{Asking, IsAnswered, IsBrokenOff, IsRefused, asking}
use Rattle.graphql_executor.specs.Resolvers.{Resolver}
use Rattle.graphql_lines.specs.Request.{Request, request_of}
use Rattle.graphql_lines.specs.Variables.{fields_of, input_of}
use Rattle.graphql_answers.specs.Lines.{line_of}
use Rattle.graphql_answers.specs.Responses.{refusal_response, response_of}
use Rattle.graphql_service.specs.AnsweredBy.{AnsweredBy}
use Rattle.graphql_service.specs.Texts.{told_of_line, told_of_request}
use Rattle.graphql_service.specs.declared.service.Service.{Service}

-- what is written behind a text has a property
abbrev pub Appends : (Bytes → Type 0) → Bytes → Bytes → Type 0
Appends P old new = (text : Bytes) × (new ≡ old ++ text) × P text

-- by what a service answers
pub record Answerer (S C N X : Type 0) : Type 1 where
  pub scalars : Scalars S C
  -- how errors of rules are ordered, and those of fields
  pub by_rules : RuleError → RuleError → Ordering
  pub by_fields : ExecutionError S → ExecutionError S → Ordering
  pub schema : SchemaType S C
  pub introspection_disabled : Bool
  -- the greatest length of a line, in bytes
  pub limit : ℕ
  pub resolver : Resolver S N X

-- by what a service answers
abbrev pub answerer_of : {S C N X R : Type 0} → AnsweredBy S C N X R → Service S R X C
    → Answerer S C N X
answerer_of answering service = record {
  scalars = answering.scalars;
  by_rules = answering.by_rules;
  by_fields = answering.by_fields;
  schema = service.root_node.schema;
  introspection_disabled = service.root_node.introspection_disabled;
  limit = service.line_limit;
  resolver = answering.resolving service.resolver;
}

-- the values that a request gives for variables
abbrev pub given : {S C : Type 0} → Scalars S C → Request → Bytes → Option (InputValue S)
given s request name =
    option_and_then (input_of s.of_bool s.of_int s.of_text) (get_member name request.variables)

module _ {S C N X : Type 0} (a : Answerer S C N X) (line : Bytes) where
  -- the line is no longer than the limit, and asks this, with numbers that are whole and have 32
  -- bits
  pub record Asks (request : Request) : Type 0 where
    pub within : length line ≤ a.limit
    pub asked : request_of line ≡ Some request
    pub numbers : IsSome
        (fields_of a.scalars.of_bool a.scalars.of_int a.scalars.of_text request.variables)

  -- why the line is no request: the first that stands
  abbrev pub IsNoRequest : LineRefusal → Type 0
  IsNoRequest LineTooLong = a.limit < length line
  IsNoRequest NotARequest = (length line ≤ a.limit) × (request_of line ≡ None)
  IsNoRequest BadNumber =
      let s = a.scalars in
      (request : Request) × (length line ≤ a.limit) × (request_of line ≡ Some request)
      × (fields_of s.of_bool s.of_int s.of_text request.variables ≡ None)
  IsNoRequest Memory = ⊥

  -- what a request of the line asks of the schema
  abbrev pub asked_by : Request → Asking S C
  asked_by request =
      asking a.schema a.introspection_disabled (chars request.query) request.operation_name
      (given a.scalars request)

  -- why the request that the line asks is not executed: the first step that fails
  pub record IsNotExecuted (refusal : GraphQLError) : Type 0 where
    pub request : Request
    pub asks : Asks request
    pub is_refusal : refusal ≡ request_error.Memory → ⊥
    pub due : IsRefused a.scalars (asked_by request) a.by_rules refusal

  -- the data and the errors of the operation that the line asks for, and the context that it leaves
  pub record IsExecuted (old : X) (answered : Value S) (errors : List (ExecutionError S))
      (new : X) : Type 0 where
    pub request : Request
    pub asks : Asks request
    pub answers : IsAnswered a.scalars (asked_by request) a.resolver a.by_fields old answered errors
        new

  -- the answer line: of the refusal that is due, with the context as it was, or of the data and the
  -- errors, with the context that the operation leaves
  pub data IsAnswer (old : X) (answered : Bytes) (new : X) : Type 0 where
    no_request : (refusal : LineRefusal) → IsNoRequest refusal
        → answered ≡ line_of (refusal_response (told_of_line a.limit refusal)) → new ≡ old
        → IsAnswer old answered new
    not_executed : (refusal : GraphQLError) → IsNotExecuted refusal
        → answered ≡ line_of (refusal_response (told_of_request refusal)) → new ≡ old
        → IsAnswer old answered new
    executed_to : (found : Value S) (errors : List (ExecutionError S))
        → IsExecuted old found errors new
        → answered ≡ line_of (response_of a.scalars.answer found errors) → IsAnswer old answered new

  -- memory runs out while the operation that the line asks for is executed
  pub record BreaksOff (old new : X) : Type 0 where
    pub request : Request
    pub asks : Asks request
    pub broken : IsBrokenOff a.scalars (asked_by request) a.resolver old new

  -- the context that is left where memory runs out: as it was, or after a beginning of a mutation
  abbrev pub LeavesBroken : X → X → Type 0
  LeavesBroken old new = (new ≡ old) ⊎ BreaksOff old new
