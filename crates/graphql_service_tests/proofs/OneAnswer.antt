-- What a call answers is all that may be answered.
use Rattle.std.proofs.Common.{List, Result, Ok, Err, IfErr, IfOk}
use Rattle.std.specs.declared.cmp.Ordering.{Ordering}
use Rattle.graphql_output_values.specs.declared.value.Value.{Value}
use Rattle.graphql_rule_errors.specs.declared.rule_error.RuleError.{RuleError}
use Rattle.graphql_field_results.specs.declared.execution_error.ExecutionError.{ExecutionError}
use Rattle.graphql_executor.specs.Answered.{Asking, IsAnswered, IsRefused}
use Rattle.graphql_executor.specs.Laws.{AnswersAreOne, ExecutableAreNotRefused}
use Rattle.graphql_executor.specs.Requests.{GraphQLError, Scalars}
use Rattle.graphql_executor.specs.Resolvers.{Resolver}
use Rattle.graphql_service_tests.specs.OnlyResponses.{NeverExecuted, OnlyRefusedForMemory, OnlyResponse}

module _ {S C : Type 0} (s : Scalars S C) (a : Asking S C) where
  abbrev Answer : Type 0
  Answer = Result (Value S × List (ExecutionError S)) GraphQLError

  module _ {N X : Type 0} (one : AnswersAreOne s N X) (r : Resolver S N X) (cmp : ExecutionError S → ExecutionError S → Ordering) (old new : X) where
    pub only_response : (answer : Answer) → IfOk answer (λ x. IsAnswered s a r cmp old x.0 x.1 new)
        → IfOk answer (λ x. OnlyResponse s a r cmp old x.0 new)
    only_response (Err e) h = tt
    only_response (Ok x) h = λ other others after is. one a r cmp old after new other x.0 others x.1 is h

    pub only_for_memory : ExecutableAreNotRefused s → (by : RuleError → RuleError → Ordering) (answer : Answer)
        → IfOk answer (λ x. IsAnswered s a r cmp old x.0 x.1 new) → IfOk answer (λ x. OnlyRefusedForMemory s a by)
    only_for_memory law by (Err e) h = tt
    only_for_memory law by (Ok x) h = λ refusal refused. law a h.document h.operation by refusal h.executable refused

  pub never_executed : ExecutableAreNotRefused s → (by : RuleError → RuleError → Ordering) (answer : Answer)
      → IfErr answer (IsRefused s a by) → IfErr answer (NeverExecuted s a)
  never_executed law by (Ok x) h = tt
  never_executed law by (Err e) h = λ not_memory document operation executable.
      not_memory (law a document operation by e executable h)
