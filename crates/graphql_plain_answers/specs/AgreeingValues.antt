-- Values of variables that are the same for some names
-- (GraphQL October 2021, 6.1.2 Coercing Variable Values).
use Rattle.std.specs.Prelude.{◌≡◌, List, Option}
use Rattle.std.specs.List.{Contains}
use Rattle.std.specs.Option.{option_map}
use Rattle.graphql_names.specs.Names.{Bytes}
use Rattle.graphql_values.specs.InputValues.{unlocated}
use Rattle.graphql_values.specs.declared.input_value.InputValue.{InputValue}

-- values of variables, by their names
abbrev pub Values : Type 0 → Type 0
Values S = Bytes → Option (InputValue S)

-- each of these names has one value in both, places aside, or none in either
abbrev pub AgreeOn : {S : Type 0} → Values S → Values S → List Bytes → Type 0
AgreeOn values others names =
    (name : Bytes) → Contains names name
    → option_map unlocated (values name) ≡ option_map unlocated (others name)
