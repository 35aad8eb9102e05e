-- Argument values and outcomes without their places in a text.
use Rattle.std.specs.Prelude.{map}
use Rattle.graphql_text.specs.Position.{origin}
use Rattle.graphql_values.specs.InputValues.{unlocated}
use Rattle.graphql_tree.specs.Unlocated.{without_place}
use Rattle.graphql_arguments.specs.ArgumentValues.{Given}
use Rattle.graphql_field_results.specs.declared.execution_error.ExecutionError.{ExecutionError}
use Rattle.graphql_semantics.specs.Outcomes.{Outcome}
use Rattle.graphql_mutation.specs.Serial.{Run}

module _ {S : Type 0} where
  -- argument values (6.4.1 Coercing Field Arguments)
  abbrev pub unlocated_given : Given S → Given S
  unlocated_given values = map (λ v. (v.0, without_place unlocated v.1)) values

  -- an error of a field, by its path alone (7.1.2 Errors)
  abbrev pub unlocated_failure : ExecutionError S → ExecutionError S
  unlocated_failure failure = record failure { location = origin }

  abbrev pub unlocated_outcome : {A : Type 0} → Outcome S A → Outcome S A
  unlocated_outcome o = record { value = o.value; failures = map unlocated_failure o.failures }

-- a part of a mutation, by what it gives and the context after
abbrev pub unlocated_run : {S X A : Type 0} → Run S X A → Run S X A
unlocated_run run = record { outcome = unlocated_outcome run.outcome; after = run.after }
