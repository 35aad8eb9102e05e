-- What an answer comes to where an executor stands (GraphQL October 2021, 6.4.3 Value Completion).
use Rattle.std.specs.Prelude.{Option, Ok, reverse}
use Rattle.graphql_output_values.specs.declared.value.Value.{Value}
use Rattle.graphql_field_results.specs.declared.field_error.FieldError.{FieldError}
use Rattle.graphql_field_results.specs.declared.resolved.Resolved.{Resolved}
use Rattle.graphql_semantics.specs.Engines.{Engine}
use Rattle.graphql_semantics.specs.Outcomes.{Outcome}
use Rattle.graphql_execution_walk.specs.Begins.{outcome_at, own_error_at}
use Rattle.graphql_execution_walk.specs.FieldPaths.{keys_of, start_of_path}
use Rattle.graphql_execution_walk.specs.Sets.{sets_in}
use Rattle.graphql_execution_walk.specs.declared.executor.Executor.{Executor}

module _ {S N Context C : Type 0} (e : Engine S N) (executor : Executor Context S C)
    (answer : Resolved S N) where
  -- the error of the place itself
  abbrev pub own_error_here : Option (FieldError S)
  own_error_here = own_error_at e executor.current_type.name.now
      (reverse executor.current_type.modifiers.now) (Ok answer)

  -- the value at the current type, with what is selected from its objects, and what fails there and
  -- below
  abbrev pub outcome_here : Outcome S (Value S)
  outcome_here = outcome_at e (sets_in executor.request.now executor.selected)
      executor.current_type.name.now (start_of_path executor.path)
      (reverse executor.current_type.modifiers.now) (Ok answer) (keys_of executor.path)
