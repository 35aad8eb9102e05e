-- What a resolver answers, want of memory aside (GraphQL October 2021, 6.4.2 Value Resolution).
use Rattle.std.specs.Prelude.{◌≡◌, Result, Ok, Err, IfErr}
use Rattle.graphql_output_values.specs.DistinctKeys.{HasDistinctKeysThroughout}
use Rattle.graphql_field_results.specs.declared.field_error.FieldError.{FieldError}
use Rattle.graphql_field_results.specs.declared.field_fault.FieldFault.{FieldFault}
use Rattle.graphql_field_results.specs.declared.field_fault.FieldFault.TheVariants as fault

-- the answer, or the error, is the wanted one; want of memory tells nothing
abbrev pub Answered : {S A : Type 0} → Result A (FieldError S) → Result A (FieldFault S) → Type 0
Answered wanted (Ok x) = wanted ≡ Ok x
Answered wanted (Err (fault.Error e)) = wanted ≡ Err e
Answered wanted (Err fault.Memory) = Unit {0}

-- what a call leaves of what it writes: what is there afterwards; for want of memory what was there
abbrev pub Leaves : {S A X : Type 0} → X → X → Result A (FieldFault S) → X → Type 0
Leaves old after (Ok x) new = new ≡ after
Leaves old after (Err (fault.Error e)) new = new ≡ after
Leaves old after (Err fault.Memory) new = new ≡ old

-- where the answer is an error, what is told beside its reason has distinct keys, however deep
pub record TellsInDistinctKeys {S A : Type 0} (answer : Result A (FieldError S)) : Type 0 where
  pub beside : IfErr answer (λ error. HasDistinctKeysThroughout error.extensions)
