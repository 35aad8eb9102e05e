-- What a call gives and leaves of a mutation's run.
use Rattle.std.specs.Prelude.{◌≡◌, ◌⊎◌, ◌++◌, List, Option, Result, Ok, Err}
use Rattle.graphql_field_results.specs.declared.execution_error.ExecutionError.{ExecutionError}
use Rattle.graphql_field_results.specs.declared.field_fault.FieldFault.{FieldFault}
use Rattle.graphql_field_results.specs.declared.field_fault.FieldFault.TheVariants as fault
use Rattle.graphql_semantics.specs.Outcomes.{outcome_map}
use Rattle.graphql_mutation.specs.Serial.{Run}

abbrev pub run_map : {S X A B : Type 0} → (A → B) → Run S X A → Run S X B
run_map f run = record { outcome = outcome_map f run.outcome; after = run.after }

-- the value, the failures behind what was told, and the context
pub record HasRun {S X A : Type 0} (run : Run S X A) (value : Option A)
    (old new : List (ExecutionError S)) (now : X)
    : Type 0 where
  pub is : value ≡ run.outcome.value
  pub told : new ≡ old ++ run.outcome.failures
  pub after : now ≡ run.after

-- the context after; where memory runs out, it or the one before
abbrev pub LeavesOrKeeps : {S A X : Type 0} → X → X → Result A (FieldFault S) → X → Type 0
LeavesOrKeeps old after (Ok x) new = new ≡ after
LeavesOrKeeps old after (Err (fault.Error e)) new = new ≡ after
LeavesOrKeeps old after (Err fault.Memory) new = (new ≡ old) ⊎ (new ≡ after)
