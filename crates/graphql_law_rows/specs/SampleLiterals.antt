-- A literal with a variable, and one without.
use Rattle.std.specs.Prelude.{ℕ, [], ◌∷◌, Option, Some, None, codes}
use Rattle.graphql_names.specs.Names.{Bytes}
use Rattle.graphql_values.specs.InputValues.{unplaced}
use Rattle.graphql_values.specs.declared.input_value.InputValue.{InputValue}
use Rattle.graphql_values.specs.declared.input_value.InputValue.TheVariants as value

-- each variable is 7, or no variable has a value
abbrev pub seven : Bytes → Option (InputValue ℕ)
seven name = Some (value.Scalar 7)

abbrev pub no_values : Bytes → Option (InputValue ℕ)
no_values name = None

-- `[1, $x]` and `[1, 7]`
abbrev pub one_and_x : InputValue ℕ
one_and_x = value.List (unplaced (value.Scalar 1) ∷ unplaced (value.Variable (codes "x")) ∷ [])

abbrev pub one_and_seven : InputValue ℕ
one_and_seven = value.List (unplaced (value.Scalar 1) ∷ unplaced (value.Scalar 7) ∷ [])
