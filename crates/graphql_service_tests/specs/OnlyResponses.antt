-- What a request is answered is all that it may be answered, and what may be refused of it.
use Rattle.std.specs.Prelude.{◌≡◌, ◌≢◌, List}
use Rattle.std.specs.declared.cmp.Ordering.{Ordering}
use Rattle.graphql_values.specs.InputValues.{Placed}
use Rattle.graphql_output_values.specs.declared.value.Value.{Value}
use Rattle.graphql_rule_errors.specs.declared.rule_error.RuleError.{RuleError}
use Rattle.graphql_tree.specs.declared.document.Definition.{Definition}
use Rattle.graphql_tree.specs.declared.document.Operation.{Operation}
use Rattle.graphql_field_results.specs.declared.execution_error.ExecutionError.{ExecutionError}
use Rattle.graphql_executor.specs.Answered.{Asking, IsAnswered, IsExecutable, IsRefused}
use Rattle.graphql_executor.specs.Requests.{GraphQLError, Memory, Scalars}
use Rattle.graphql_executor.specs.Resolvers.{Resolver}

-- by what scalars mean
module _ {S C : Type 0} (s : Scalars S C) (a : Asking S C) where
  -- nothing but want of memory refuses it
  abbrev pub OnlyRefusedForMemory : (RuleError → RuleError → Ordering) → Type 0
  OnlyRefusedForMemory cmp = (refusal : GraphQLError) → IsRefused s a cmp refusal → refusal ≡ Memory

  -- where it is refused, but for want of memory, no operation of it is executed
  abbrev pub NeverExecuted : GraphQLError → Type 0
  NeverExecuted refusal =
      refusal ≢ Memory → (document : List (Definition S)) (operation : Placed (Operation S))
      → IsExecutable s a document operation → ⊥

  -- each answer to it on this context has these data, and leaves this context
  abbrev pub OnlyResponse : {N X : Type 0} → Resolver S N X
      → (ExecutionError S → ExecutionError S → Ordering)
      → X → Value S → X → Type 0
  OnlyResponse {N} {X} r cmp old answered new =
      (other : Value S) (others : List (ExecutionError S)) (after : X)
      → IsAnswered s a r cmp old other others after → (other ≡ answered) × (after ≡ new)
