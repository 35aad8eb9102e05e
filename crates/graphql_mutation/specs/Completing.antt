-- What an answer, or an error, comes to where an executor stands
-- (GraphQL October 2021, 6.4.3 Value Completion, 6.4.4 Handling Field Errors).
use Rattle.std.specs.Prelude.{◌≡◌, ◌++◌, [], ◌∷◌, List, Option, None, Result, Ok, Err, reverse}
use Rattle.graphql_output_values.specs.declared.value.Value.{Value}
use Rattle.graphql_field_results.specs.declared.execution_error.ExecutionError.{ExecutionError}
use Rattle.graphql_field_results.specs.declared.field_fault.FieldFault.{FieldFault}
use Rattle.graphql_field_results.specs.declared.field_fault.FieldFault.TheVariants as fault
use Rattle.graphql_field_results.specs.declared.field_error.FieldError.{FieldError}
use Rattle.graphql_field_results.specs.declared.resolved.Resolved.{Resolved}
use Rattle.graphql_semantics.specs.Completion.{is_required}
use Rattle.graphql_semantics.specs.Engines.{Engine}
use Rattle.graphql_semantics.specs.Outcomes.{Outcome, show_place}
use Rattle.graphql_execution_walk.specs.Begins.{outcome_at, own_error_at}
use Rattle.graphql_execution_walk.specs.FieldPaths.{error_at, keys_of, start_of_path}
use Rattle.graphql_execution_walk.specs.Sets.{sets_in}
use Rattle.graphql_execution_walk.specs.declared.executor.Executor.{Executor}
use Rattle.graphql_mutation.specs.Serial.{Mutation, Run, RootStep}

module _ {S N Context C : Type 0} (e : Engine S N) (executor : Executor Context S C)
    (answer : Result (Resolved S N) (FieldError S)) where
  -- the error of the place itself
  abbrev pub own_error_of_result : Option (FieldError S)
  own_error_of_result =
      own_error_at e executor.current_type.name.now (reverse executor.current_type.modifiers.now)
      answer

  -- the value at the current type, with what is selected from its objects, and what fails there and
  -- below
  abbrev pub outcome_of_result : Outcome S (Value S)
  outcome_of_result =
      outcome_at e (sets_in executor.request.now executor.selected) executor.current_type.name.now
      (start_of_path executor.path) (reverse executor.current_type.modifiers.now) answer
      (keys_of executor.path)

-- the value, or none where the place itself fails, which is told
abbrev pub IsValueOrTold : {S Context C : Type 0} → Executor Context S C
    → Result (Option (Value S)) (FieldFault S)
    → List (ExecutionError S) → Option (Value S) → List (ExecutionError S) → Type 0
IsValueOrTold executor (Ok v) old value new = (value ≡ v) × (new ≡ old)
IsValueOrTold executor (Err (fault.Error e)) old value new =
    (value ≡ None) × (new ≡ old ++ error_at (start_of_path executor.path) executor.path e ∷ [])
IsValueOrTold executor (Err fault.Memory) old value new = ⊥

-- the answer of a step, completed on the context after, as the place at which an executor stands
-- shows it
abbrev pub step_shown : {S N X Context C : Type 0} → Mutation S N X → Executor Context S C
    → RootStep S N X
    → Run S X (Value S)
step_shown m executor step = record {
  outcome =
      show_place (is_required (reverse executor.current_type.modifiers.now))
      (outcome_of_result (m.engine step.after) executor step.answer);
  after = step.after;
}
