-- Objects and input values, each in two orders.
use Rattle.std.specs.Prelude.{ℕ, List, [], ◌∷◌, Option, Some, None, codes, ◌+◌}
use Rattle.graphql_text.specs.declared.text.Text.{Text}
use Rattle.graphql_output_values.specs.Objects.{Pair}
use Rattle.graphql_output_values.specs.declared.object.Object.{Object}
use Rattle.graphql_output_values.specs.declared.value.Value.{Value}
use Rattle.graphql_output_values.specs.declared.value.Value.TheVariants as output
use Rattle.graphql_values.specs.InputValues.{Placed}
use Rattle.graphql_values.specs.InputValues as input_values
use Rattle.graphql_values.specs.declared.input_value.InputValue.{InputValue}
use Rattle.graphql_values.specs.declared.input_value.InputValue.TheVariants as input

-- ---- objects

-- `{"c":null}`, and it in a list
abbrev pub inner : Object ℕ
inner = record { fields = (codes "c", output.Null) ∷ [] }

abbrev pub inner_list : Value ℕ
inner_list = output.List (output.Object inner ∷ [])

abbrev pub field_b : Pair (Value ℕ)
field_b = (codes "b", output.Scalar 1)

abbrev pub field_a : Pair (Value ℕ)
field_a = (codes "a", inner_list)

-- `{"b":1,"a":[{"c":null}]}`, and its fields the other way round
abbrev pub sample_object : Object ℕ
sample_object = record { fields = field_b ∷ field_a ∷ [] }

abbrev pub turned : Object ℕ
turned = record { fields = field_a ∷ field_b ∷ [] }

-- pairs of which two have one key
abbrev pub pairs : List (Pair (Value ℕ))
pairs = field_b ∷ field_a ∷ (codes "b", output.Null) ∷ []

-- ---- input values

abbrev pub at_index : {A : Type 0} → ℕ → A → Placed A
at_index n x = record {
  item = x;
  span = record {
    start = record { index = n; line = 0; column = n };
    end = record { index = n; line = 0; column = n };
  };
}

-- `[$v]` and `[7]`
abbrev pub variables : InputValue ℕ
variables = input.List (at_index 0 (input.Variable (codes "v")) ∷ [])

abbrev pub constants : InputValue ℕ
constants = input.List (at_index 0 (input.Scalar 7) ∷ [])

-- `x: 1` and `y: [$v]`
abbrev pub x_at : ℕ → input_values.Pair (InputValue ℕ)
x_at n = (at_index n (codes "x"), at_index (n + 3) (input.Scalar 1))

abbrev pub y_at : ℕ → input_values.Pair (InputValue ℕ)
y_at n = (at_index n (codes "y"), at_index (n + 3) variables)

-- `{x: 1, y: [$v]}`, and the two the other way round
abbrev pub sample_fields : List (input_values.Pair (InputValue ℕ))
sample_fields = x_at 1 ∷ y_at 7 ∷ []

abbrev pub turned_fields : List (input_values.Pair (InputValue ℕ))
turned_fields = y_at 1 ∷ x_at 10 ∷ []

-- each variable has the value 7, or none has any
abbrev pub seven : Text → Option (InputValue ℕ)
seven name = Some (input.Scalar 7)

abbrev pub nothing : Text → Option (InputValue ℕ)
nothing name = None
