-- What is answered is answered to the service, and leaves the same; and what is asked for and refused is the answer's error.
use Rattle.std.proofs.Common.{◌≡◌, Result, Ok, Err, ap, subst, sym}
use Rattle.std.specs.Result.{IsErrAnd}
use Rattle.graphql_scalars.specs.declared.default_scalar.DefaultScalarValue.{DefaultScalarValue}
use Rattle.graphql_field_results.specs.Answered.{Answered, TellsInDistinctKeys}
use Rattle.graphql_field_results.specs.Answered.{Leaves as AnsweredLeaves}
use Rattle.graphql_field_results.specs.declared.field_error.FieldError.{FieldError}
use Rattle.graphql_resolvers.specs.declared.failure.Failure.{Failure}
use Rattle.graphql_resolvers.specs.declared.failure.Failure.TheVariants as failure
use Rattle.graphql_resolvers.specs.Refusals.{IsRefusal, Refusal, TellsBy}
use Rattle.graphql_resolvers.proofs.DistinctExtensions.{distinct_extensions}
use Rattle.graphql_resolvers.specs.Answers.{Answer, Answers, Leaves, field_result, with_reason, ◌>>=◌}
use Rattle.graphql_resolvers.specs.declared.answer.Reply.{Reply}

told_error : {N : Type 0} (wanted : Answer N) (e : FieldError DefaultScalarValue) → IsRefusal wanted e → with_reason wanted ≡ Err e
told_error (Ok x) e h = absurd h
told_error (Err r) e h = ap Err h

pub told_answer : {N : Type 0} (wanted : Answer N) (r : Result (Reply N) Failure) → Answers wanted r → Answered (with_reason wanted) (field_result r)
told_answer wanted (Ok x) h = ap with_reason h
told_answer wanted (Err (failure.Error e)) h = told_error wanted e h
told_answer wanted (Err failure.Memory) h = tt

pub told_leaves : {N X : Type 0} (old after new : X) (r : Result (Reply N) Failure) → Leaves old after r new → AnsweredLeaves old after (field_result r) new
told_leaves old after new (Ok x) h = h
told_leaves old after new (Err (failure.Error e)) h = h
told_leaves old after new (Err failure.Memory) h = h

pub tells_reason : {N : Type 0} (wanted : Answer N) → TellsInDistinctKeys (with_reason wanted)
tells_reason (Ok x) = record { beside = tt }
tells_reason (Err r) = record { beside = distinct_extensions r.beside }

-- ---- what is asked for, and then answered with

still_refused : {A N : Type 0} (found : Result A Refusal) (next : A → Answer N) (e : FieldError DefaultScalarValue) → IsRefusal found e → IsRefusal (found >>= next) e
still_refused (Ok x) next e h = absurd h
still_refused (Err r) next e h = h

fails_then : {A B N : Type 0} (view : B → A) (found : Result A Refusal) (next : A → Answer N) (failure : Failure)
    → TellsBy view (Err failure) found → Answers (found >>= next) (Err failure)
fails_then view found next (failure.Error e) h = still_refused found next e h
fails_then view found next failure.Memory h = tt

-- the error of what is asked for is the answer's
pub asked_fails : {A B N : Type 0} (view : B → A) (found : Result A Refusal) (next : A → Answer N) (failure : Failure)
    (r : Result (Reply N) Failure) → IsErrAnd r (λ other. other ≡ failure) → TellsBy view (Err failure) found → Answers (found >>= next) r
asked_fails view found next failure (Ok x) is h = absurd is
asked_fails view found next failure (Err other) is h =
    subst (λ (f : Failure). Answers (found >>= next) (Err f)) (sym is) (fails_then view found next failure h)

-- what is found is answered with
pub asked_finds : {A B N : Type 0} (view : B → A) (found : Result A Refusal) (next : A → Answer N) (x : B) (r : Result (Reply N) Failure)
    → TellsBy view (Ok x) found → Answers (next (view x)) r → Answers (found >>= next) r
asked_finds {A = A} view found next x r h answered = subst (λ (w : Result A Refusal). Answers (w >>= next) r) (sym h) answered
