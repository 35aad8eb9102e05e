-- Laws of answers (GraphQL October 2021, 6.1 Executing Requests).
use Rattle.std.specs.Prelude.{◌≡◌, List}
use Rattle.std.specs.declared.cmp.Ordering.{Ordering}
use Rattle.graphql_output_values.specs.declared.value.Value.{Value}
use Rattle.graphql_field_results.specs.declared.execution_error.ExecutionError.{ExecutionError}
use Rattle.graphql_schema.specs.Scalars.{Scalars}
use Rattle.graphql_executor.specs.Answered.{Asking, IsAnswered}
use Rattle.graphql_executor.specs.Fitting.{FitsAnswer}
use Rattle.graphql_executor.specs.Resolvers.{Resolver}
pub use Rattle.graphql_requests.specs.Asked.{ExecutableAreNotRefused, OneIsExecuted}

-- by what scalars mean
module _ {S C : Type 0} (s : Scalars S C) where
  -- two answers to one request on one context have the same data, and leave the same context
  abbrev pub AnswersAreOne : Type 0 → Type 0 → Type 0
  AnswersAreOne N X =
      (a : Asking S C) (r : Resolver S N X) (cmp : ExecutionError S → ExecutionError S → Ordering)
      → (c one_after other_after : X) (one other : Value S)
      (errors others : List (ExecutionError S))
      → IsAnswered s a r cmp c one errors one_after
      → IsAnswered s a r cmp c other others other_after
      → (one ≡ other) × (one_after ≡ other_after)

  -- the data that are answered fit what is selected, and there is an error exactly where something
  -- fails
  abbrev pub AnswersFit : Type 0 → Type 0 → Type 0
  AnswersFit N X =
      (a : Asking S C) (r : Resolver S N X) (cmp : ExecutionError S → ExecutionError S → Ordering)
      → (c new : X) (answered : Value S) (errors : List (ExecutionError S))
      → (h : IsAnswered s a r cmp c answered errors new)
      → FitsAnswer s a r h.document h.operation.item h.yields.root c answered errors
