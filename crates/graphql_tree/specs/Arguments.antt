-- Arguments by their names (GraphQL October 2021, 2.6 Arguments).
use Rattle.std.specs.Prelude.{ℕ, List, Option}
use Rattle.std.specs.List.{find}
use Rattle.std.specs.Option.{option_map}
use Rattle.std.specs.Str.{bytes_eq}
use Rattle.graphql_values.specs.declared.input_value.InputValue.{InputValue}
use Rattle.graphql_values.specs.InputValues.{Placed}

-- a name and a value, at their places
abbrev pub Argument : Type 0 → Type 0
Argument S = Placed (List ℕ) × Placed (InputValue S)

-- the value of the first argument of this name, if there is one
abbrev pub value_of : {S : Type 0} → List ℕ → List (Argument S) → Option (Placed (InputValue S))
value_of name arguments = option_map (λ a. a.1) (find (λ a. bytes_eq a.0.item name) arguments)
