-- Why a field has no value, as its resolver says it (GraphQL October 2021, 6.4.4 Handling Field
-- Errors, 7.1.2 Errors).
use Rattle.std.specs.Prelude.{◌≡◌, List, [], map, Option, Some, None, Result, Ok, Err}
use Rattle.graphql_names.specs.Names.{Bytes}
use Rattle.graphql_output_values.specs.Objects.{Pair, with_fields}
use Rattle.graphql_output_values.specs.declared.value.Value.{Value}
use Rattle.graphql_output_values.specs.declared.value.Value.TheVariants as value
use Rattle.graphql_scalars.specs.declared.default_scalar.DefaultScalarValue.{DefaultScalarValue}
use Rattle.graphql_scalars.specs.declared.default_scalar.DefaultScalarValue.TheVariants as scalar
use Rattle.graphql_field_results.specs.declared.field_error.FieldError.{FieldError}
use Rattle.graphql_resolvers.specs.declared.failure.Failure.{Failure}
use Rattle.graphql_resolvers.specs.declared.failure.Failure.TheVariants as failure

-- a reason, and the texts that are told beside it under their keys, if any are
pub record Refusal : Type 0 where
  pub reason : Bytes
  pub beside : Option (List (Bytes × Bytes))

abbrev pub because : Bytes → Refusal
because reason = record { reason = reason; beside = None }

abbrev pub text_pair : Bytes × Bytes → Pair (Value DefaultScalarValue)
text_pair p = (p.0, value.Scalar (scalar.String p.1))

-- the extensions of an error: of a key that is told twice what is told last
abbrev pub extensions : Option (List (Bytes × Bytes)) → Value DefaultScalarValue
extensions None = value.Null
extensions (Some pairs) = value.Object (record { fields = with_fields [] (map text_pair pairs) })

abbrev pub error_of : Refusal → FieldError DefaultScalarValue
error_of r = record { message = r.reason; extensions = extensions r.beside }

-- the error is that of the refusal that is wanted
abbrev pub IsRefusal : {A : Type 0} → Result A Refusal → FieldError DefaultScalarValue → Type 0
IsRefusal (Ok x) e = ⊥
IsRefusal (Err r) e = error_of r ≡ e

-- what the view shows of the value, or the error, is what is wanted; want of memory tells nothing
abbrev pub TellsBy : {A B : Type 0} → (A → B) → Result A Failure → Result B Refusal → Type 0
TellsBy view (Ok x) wanted = wanted ≡ Ok (view x)
TellsBy view (Err (failure.Error e)) wanted = IsRefusal wanted e
TellsBy view (Err failure.Memory) wanted = Unit {0}

-- it is that refusal, unless memory ran out
abbrev pub IsFailureOf : Refusal → Failure → Type 0
IsFailureOf r (failure.Error e) = error_of r ≡ e
IsFailureOf r failure.Memory = Unit {0}
