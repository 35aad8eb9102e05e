-- What a field is answered, in short (GraphQL October 2021, 6.4.2 Value Resolution).
use Rattle.std.specs.Prelude.{◌≡◌, ◌+◌, ◌++◌, ℕ, ℤ, Bool, List, [], ◌∷◌, drop, map, take, Option}
use Rattle.std.specs.Prelude.{Some, None, Result, Ok, Err}
use Rattle.std.specs.Borrow.{Bor}
pub use Rattle.graphql_names.specs.Names.{Bytes}
use Rattle.graphql_scalars.specs.declared.default_scalar.DefaultScalarValue.{DefaultScalarValue}
use Rattle.graphql_scalars.specs.declared.default_scalar.DefaultScalarValue.TheVariants as scalar
use Rattle.std.specs.Option.{option_to_list}
use Rattle.graphql_field_results.specs.declared.field_error.FieldError.{FieldError}
use Rattle.graphql_field_results.specs.declared.field_fault.FieldFault.{FieldFault}
use Rattle.graphql_field_results.specs.declared.field_fault.FieldFault.TheVariants as fault
use Rattle.graphql_resolvers.specs.declared.failure.Failure.{Failure}
use Rattle.graphql_resolvers.specs.declared.failure.Failure.TheVariants as failure
use Rattle.graphql_field_results.specs.declared.resolved.Resolved.{Resolved, out-Resolved}
use Rattle.graphql_field_results.specs.declared.resolved.Resolved.TheOpen.{Resolved-F}
use Rattle.graphql_field_results.specs.declared.resolved.Resolved.TheVariants as resolved
use Rattle.graphql_output_values.specs.Objects.{Pair}
use Rattle.graphql_output_values.specs.declared.value.Value.{Value}
use Rattle.graphql_resolvers.specs.Refusals.{IsRefusal, Refusal, because, error_of, text_pair}
use Rattle.graphql_resolvers.specs.declared.answer.Reply.{Reply}
pub use Rattle.graphql_text.specs.Memory.{◌>>=◌}

-- of a resolver's nodes: what is answered, or why there is no answer
abbrev pub Answer : Type 0 → Type 0
Answer N = Result (Reply N) Refusal

-- the wanted answer, or the error that is wanted; want of memory tells nothing
abbrev pub Answers : {N : Type 0} → Answer N → Result (Reply N) Failure → Type 0
Answers wanted (Ok x) = wanted ≡ Ok x
Answers wanted (Err (failure.Error e)) = IsRefusal wanted e
Answers wanted (Err failure.Memory) = Unit {0}

-- the very answer that is wanted, without want of memory
abbrev pub at_once : {N : Type 0} → Answer N → Result (Reply N) Failure
at_once (Ok x) = Ok x
at_once (Err r) = Err (failure.Error (error_of r))

-- what a call leaves of what it writes: what is there afterwards; for want of memory what was there
abbrev pub Leaves : {N X : Type 0} → X → X → Result (Reply N) Failure → X → Type 0
Leaves old after (Ok x) new = new ≡ after
Leaves old after (Err (failure.Error e)) new = new ≡ after
Leaves old after (Err failure.Memory) new = new ≡ old

-- ---- as a service takes it

abbrev pub with_reason : {N : Type 0}
    → Answer N → Result (Resolved DefaultScalarValue N) (FieldError DefaultScalarValue)
with_reason (Ok x) = Ok x.resolved
with_reason (Err r) = Err (error_of r)

abbrev pub field_result : {N : Type 0}
    → Result (Reply N) Failure
    → Result (Resolved DefaultScalarValue N) (FieldFault DefaultScalarValue)
field_result (Ok x) = Ok x.resolved
field_result (Err (failure.Error e)) = Err (fault.Error e)
field_result (Err failure.Memory) = Err fault.Memory

-- a text under its key, both lent
abbrev pub pair_of : Bor Bytes × Bor Bytes → Pair (Value DefaultScalarValue)
pair_of p = text_pair (p.0.now, p.1.now)

module _ {N : Type 0} where
  abbrev pub reply : Resolved DefaultScalarValue N → Reply N
  reply it = record { resolved = it }

  abbrev pub null : Answer N
  null = Ok (reply resolved.Null)

  abbrev pub leaf : Bytes → Resolved DefaultScalarValue N
  leaf words = resolved.Scalar (scalar.String words)

  -- a text, or the name of an enum value
  abbrev pub text : Bytes → Answer N
  text words = Ok (reply (leaf words))

  abbrev pub text_or_null : Option Bytes → Answer N
  text_or_null (Some words) = text words
  text_or_null None = null

  abbrev pub int : ℤ → Answer N
  int n = Ok (reply (resolved.Scalar (scalar.Int n)))

  abbrev pub boolean : Bool → Answer N
  boolean b = Ok (reply (resolved.Scalar (scalar.Boolean b)))

  abbrev pub node : N → Answer N
  node n = Ok (reply (resolved.Node n))

  abbrev pub node_or_null : Option N → Answer N
  node_or_null (Some n) = node n
  node_or_null None = null

  -- an error of this reason (6.4.4 Handling Field Errors)
  abbrev pub fails : Bytes → Answer N
  fails reason = Err (because reason)

  -- an error of this reason, with these texts beside it under their keys (7.1.2 Errors, extensions)
  abbrev pub fails_with : Bytes → List (Bytes × Bytes) → Answer N
  fails_with reason beside = Err (record { reason = reason; beside = Some beside })

  -- ---- lists

  abbrev pub texts : List Bytes → Answer N
  texts words = Ok (reply (resolved.List (map leaf words)))

  abbrev pub nodes : List N → Answer N
  nodes ns = Ok (reply (resolved.List (map (λ n. resolved.Node n) ns)))

  -- one more in front, unless one of both is an error
  abbrev pub in_front : Answer N → Result (List (Resolved DefaultScalarValue N)) Refusal
      → Result (List (Resolved DefaultScalarValue N)) Refusal
  in_front (Ok x) (Ok xs) = Ok (x.resolved ∷ xs)
  in_front (Ok x) (Err r) = Err r
  in_front (Err r) others = Err r

  abbrev pub list_answer : Result (List (Resolved DefaultScalarValue N)) Refusal → Answer N
  list_answer (Ok xs) = Ok (reply (resolved.List xs))
  list_answer (Err r) = Err r

  -- ---- parts of a list that is answered; what is no list stays

  abbrev pub cut_layer : (List (Resolved DefaultScalarValue N)
      → List (Resolved DefaultScalarValue N))
      → Resolved-F DefaultScalarValue N (Resolved DefaultScalarValue N)
      → Resolved DefaultScalarValue N
  cut_layer f Resolved-F.Null = resolved.Null
  cut_layer f (Resolved-F.Scalar s) = resolved.Scalar s
  cut_layer f (Resolved-F.List xs) = resolved.List (f xs)
  cut_layer f (Resolved-F.Node n) = resolved.Node n

  abbrev pub cut_of : (List (Resolved DefaultScalarValue N) → List (Resolved DefaultScalarValue N))
      → Resolved DefaultScalarValue N → Resolved DefaultScalarValue N
  cut_of f x = cut_layer f (out-Resolved DefaultScalarValue N x)

  abbrev pub cut_answer : (List (Resolved DefaultScalarValue N)
      → List (Resolved DefaultScalarValue N))
      → Answer N → Answer N
  cut_answer f (Ok x) = Ok (reply (cut_of f x.resolved))
  cut_answer f (Err r) = Err r

  abbrev pub cut_by : (ℕ → List (Resolved DefaultScalarValue N)
      → List (Resolved DefaultScalarValue N))
      → Option ℕ → Answer N → Answer N
  cut_by f None wanted = wanted
  cut_by f (Some count) wanted = cut_answer (f count) wanted

  -- as many of the first as is asked for, if a count is given
  unfoldable pub first : Result (Option ℕ) Refusal → Answer N → Answer N
  first asked wanted = asked >>= (λ count. cut_by take count wanted)

  -- all but as many of the first as is asked for, if a count is given
  unfoldable pub skip : Result (Option ℕ) Refusal → Answer N → Answer N
  skip asked wanted = asked >>= (λ count. cut_by drop count wanted)

  module _ {A : Type 0} (answer : A → Answer N) where
    -- what each is answered, or the first reason
    unfoldable pub answers : List A → Result (List (Resolved DefaultScalarValue N)) Refusal
    answers [] = Ok []
    answers (x ∷ xs) = in_front (answer x) (answers xs)

    -- what a function may give at a reference is what is wanted of what it lends
    abbrev pub AnswersBy : (Bor A → Result (Reply N) Failure → Type 0) → Type 0
    AnswersBy gives = (x : Bor A) (r : _) → gives x r → Answers (answer x.now) r

    -- the list of what each is answered
    abbrev pub each : List A → Answer N
    each xs = list_answer (answers xs)

  module _ {A : Type 0} (node : ℕ → A → Option N) where
    -- the nodes of those from a place on that have one, each by its place and itself
    abbrev pub kept : ℕ → List A → List N
    kept place [] = []
    kept place (x ∷ xs) = option_to_list (node place x) ++ kept (place + 1) xs

    -- what a function may give at a place and a reference is what is wanted of what it lends
    abbrev pub NodesBy : (ℕ → Bor A → Option N → Type 0) → Type 0
    NodesBy gives =
        (place : ℕ) (x : Bor A) (found : Option N) → gives place x found → found ≡ node place x.now

    -- the list of the nodes of those that have one
    unfoldable pub nodes_where : List A → Answer N
    nodes_where xs = Ok (reply (resolved.List (map (λ n. resolved.Node n) (kept 0 xs))))
