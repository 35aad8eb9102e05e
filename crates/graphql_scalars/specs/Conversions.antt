-- When a scalar is refused (GraphQL October 2021, 3.5 Scalars, input coercion).
use Rattle.std.specs.Prelude.{◌≡◌, ℕ, List, Option, None}
use Rattle.graphql_scalars.specs.declared.check_error.CheckError.{CheckError}
use Rattle.graphql_scalars.specs.declared.check_error.CheckError.TheVariants.{Message}
use Rattle.graphql_scalars.specs.CheckErrors.{wrong_type}

-- there is no answer of the type of this name, and the error says so of the scalar of this text
abbrev pub Refused : {A : Type 0} → List ℕ → List ℕ → Option A → CheckError → Type 0
Refused type_name found answer e = (answer ≡ None) × (e ≡ Message (wrong_type type_name found))
