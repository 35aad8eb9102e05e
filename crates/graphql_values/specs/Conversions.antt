-- What input values mean at types of the program (GraphQL October 2021, 3.4.2 Input and Output
-- Types).
use Rattle.std.specs.Prelude.{◌≡◌, ◌≢◌, Option, Some, None, List, map}
use Rattle.graphql_values.specs.declared.input_value.InputValue.{InputValue}
use Rattle.graphql_values.specs.declared.input_value.InputValue.TheVariants as value
use Rattle.graphql_values.specs.InputValues.{unplaced}

-- null is none, and any other value is what it means where it may not be null (3.12 Non-Null)
abbrev pub MeansNullable : {S T : Type 0} → (InputValue S → T → Type 0) → InputValue S → Option T
    → Type 0
MeansNullable means v None = v ≡ value.Null
MeansNullable means v (Some x) = (v ≢ value.Null) × means v x

-- a value that is not null may be refused
abbrev pub RefusesNullable : {S E : Type 0} → (InputValue S → E → Type 0) → InputValue S → E
    → Type 0
RefusesNullable refuses v e = (v ≢ value.Null) × refuses v e

-- no value both means something and is refused
abbrev pub Apart : {S T E : Type 0} → (InputValue S → T → Type 0) → (InputValue S → E → Type 0)
    → Type 0
Apart {S} {T} {E} means refuses = (v : InputValue S) (x : T) (e : E) → means v x → refuses v e → ⊥

pub nullable_apart :
    {S T E : Type 0} (means : InputValue S → T → Type 0) (refuses : InputValue S → E → Type 0)
    → Apart means refuses → Apart (MeansNullable means) (RefusesNullable refuses)
nullable_apart means refuses apart v None e is refused = refused.0 is
nullable_apart means refuses apart v (Some x) e meant refused = apart v x e meant.1 refused.1

-- null stands for none
abbrev pub nullable_of : {S T : Type 0} → (T → InputValue S) → Option T → InputValue S
nullable_of of None = value.Null
nullable_of of (Some x) = of x

-- the list of what stands for each item, in no text
abbrev pub list_of : {S T : Type 0} → (T → InputValue S) → List T → InputValue S
list_of of xs = value.List (map (λ x. unplaced (of x)) xs)
