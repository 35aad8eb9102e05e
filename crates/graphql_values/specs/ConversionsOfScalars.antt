-- What input values mean as scalars (GraphQL October 2021, 3.5 Scalars, "Input Coercion").
use Rattle.std.specs.Prelude.{◌≡◌, ◌≢◌, ◌⊎◌, ℕ, Option, Some, List, ◌++◌, codes}
use Rattle.graphql_scalars.specs.declared.check_error.CheckError.{CheckError}
use Rattle.graphql_scalars.specs.declared.check_error.CheckError.TheVariants.{Message}
use Rattle.graphql_scalars.specs.Conversions.{Refused}
use Rattle.graphql_scalars.specs.ScalarAnswers.{ScalarAnswer}
use Rattle.graphql_scalars.specs.ScalarText.{scalar_text}
use Rattle.graphql_values.specs.declared.input_value.InputValue.{InputValue}
use Rattle.graphql_values.specs.declared.input_value.InputValue.TheVariants as value
use Rattle.graphql_values.specs.InputValueText.{input_value_text}

-- the value is a scalar whose answer is wanted, and is this
abbrev pub MeansAnswer : {S A : Type 0} → (S → ScalarAnswer) → (ScalarAnswer → Option A)
    → InputValue S → A → Type 0
MeansAnswer {S} answer wanted v x = (s : S) × (v ≡ value.Scalar s) × (wanted (answer s) ≡ Some x)

-- what is said of a value that is no scalar, by its text
abbrev pub no_scalar : List ℕ → List ℕ
no_scalar found = codes "Expected GraphQL scalar, found: " ++ found

module _ {S A : Type 0} (type_name : List ℕ) (answer : S → ScalarAnswer)
    (wanted : ScalarAnswer → Option A) where
  -- the value is a scalar whose answer is not wanted, or no scalar, and the error says so
  abbrev pub RefusesAnswer : InputValue S → CheckError → Type 0
  RefusesAnswer v e =
      ((s : S)
      × (v ≡ value.Scalar s)
      × Refused type_name (scalar_text (answer s)) (wanted (answer s)) e)
      ⊎ (((s : S) → v ≢ value.Scalar s) × (e ≡ Message (no_scalar (input_value_text answer v))))
