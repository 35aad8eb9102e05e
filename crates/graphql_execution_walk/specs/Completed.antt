-- An answer at a type, over what an engine tells of the type's name (GraphQL October 2021, 6.4.3
-- Value Completion).
use Rattle.std.specs.Prelude.{List}
use Rattle.graphql_names.specs.Names.{Bytes}
use Rattle.graphql_names.specs.declared.type_modifier.TypeModifier.{TypeModifier}
use Rattle.graphql_output_values.specs.declared.value.Value.{Value}
use Rattle.graphql_field_results.specs.declared.execution_error.ExecutionError.{ExecutionError}
use Rattle.graphql_field_results.specs.declared.field_error.FieldError.{FieldError}
use Rattle.graphql_field_results.specs.declared.resolved.Resolved.{Resolved}
use Rattle.graphql_semantics.specs.Engines.{Engine}
use Rattle.graphql_semantics.specs.Outcomes.{Outcome, show_place}
use Rattle.graphql_semantics.specs.Completion.{Members, complete, is_required}

module _ {S N : Type 0} (e : Engine S N) (run : N → Outcome S (Members S))
    (blame : FieldError S → ExecutionError S) (name : Bytes) where
  -- wraps have the outermost first
  abbrev pub completed : List TypeModifier → Resolved S N → Outcome S (Value S)
  completed wraps r =
      complete run blame name (e.is_leaf name) (λ m. e.is_possible name (e.concrete m)) wraps r

  -- the same, as the place of the type shows it
  abbrev pub completed_item : List TypeModifier → Resolved S N → Outcome S (Value S)
  completed_item wraps r = show_place (is_required wraps) (completed wraps r)
