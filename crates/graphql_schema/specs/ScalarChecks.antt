-- Which values the built-in scalars accept, and what is said of the others (GraphQL October 2021,
-- 3.5 Scalars: input coercion).
use Rattle.std.specs.Prelude.{◌≡◌, ◌≢◌, ◌⊎◌, IsSome, ℕ, List}
use Rattle.graphql_scalars.specs.declared.check_error.CheckError.{CheckError}
use Rattle.graphql_scalars.specs.declared.check_error.CheckError.TheVariants.{Message}
use Rattle.graphql_scalars.specs.declared.default_scalar.DefaultScalarValue.{DefaultScalarValue}
use Rattle.graphql_scalars.specs.CheckErrors.{wrong_type}
use Rattle.graphql_scalars.specs.DefaultScalar.{scalar_answer}
use Rattle.graphql_scalars.specs.ScalarAnswers.{as_int, as_bool, as_text}
use Rattle.graphql_scalars.specs.ScalarText.{scalar_text}
pub use Rattle.graphql_values.specs.declared.input_value.InputValue.{InputValue}
pub use Rattle.graphql_values.specs.declared.input_value.InputValue.TheVariants.{Scalar as scalar_value}
use Rattle.graphql_values.specs.declared.input_value.InputValue.TheVariants as value
use Rattle.graphql_values.specs.ConversionsOfScalars.{no_scalar}
use Rattle.graphql_values.specs.InputValueText.{input_value_text}

-- a scalar of which this holds
abbrev pub IsScalar : {S : Type 0} → (S → Type 0) → InputValue S → Type 0
IsScalar {S} P v = (s : S) × (v ≡ value.Scalar s) × P s

-- an integer of 32 bits (3.5.1 Int)
abbrev pub IsInt : InputValue DefaultScalarValue → Type 0
IsInt = IsScalar (λ s. IsSome (as_int (scalar_answer s)))

-- a text (3.5.3 String)
abbrev pub IsString : InputValue DefaultScalarValue → Type 0
IsString = IsScalar (λ s. IsSome (as_text (scalar_answer s)))

-- `true` or `false` (3.5.4 Boolean)
abbrev pub IsBoolean : InputValue DefaultScalarValue → Type 0
IsBoolean = IsScalar (λ s. IsSome (as_bool (scalar_answer s)))

-- a text or an integer (3.5.5 ID)
abbrev pub IsId : InputValue DefaultScalarValue → Type 0
IsId = IsScalar (λ s. IsSome (as_text (scalar_answer s)) ⊎ IsSome (as_int (scalar_answer s)))

-- the error says of a scalar which type was expected, and of any other value that it is no scalar,
-- by its text
abbrev pub SaysWhy : List ℕ → InputValue DefaultScalarValue → CheckError → Type 0
SaysWhy type_name v e =
    ((s : DefaultScalarValue) → v ≡ value.Scalar s
    → e ≡ Message (wrong_type type_name (scalar_text (scalar_answer s))))
    × (((s : DefaultScalarValue) → v ≢ value.Scalar s)
    → e ≡ Message (no_scalar (input_value_text scalar_answer v)))
