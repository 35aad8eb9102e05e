-- Laws of literals with the values of variables in their stead (GraphQL October 2021, 6.4.1
-- Coercing Field Arguments).
use Rattle.std.specs.Prelude.{◌≡◌, Option, Some}
use Rattle.graphql_text.specs.declared.text.Text.{Text}
use Rattle.graphql_values.specs.Variables.{IsConstant, constant_of}
use Rattle.graphql_values.specs.declared.input_value.InputValue.{InputValue}
use Rattle.graphql_written_out.specs.Filled.{filled}

-- a literal without variables is itself
abbrev pub ConstantsStay : Type 0 → Type 0
ConstantsStay S = (given : Text → Option (InputValue S)) (v : InputValue S) → IsConstant v
    → filled given v ≡ Some v

-- where each variable has a value, the literal is what it becomes as a constant
abbrev pub AgreesWithConstants : Type 0 → Type 0
AgreesWithConstants S = (given : Text → Option (InputValue S)) (v w : InputValue S)
    → constant_of given v ≡ Some w → filled given v ≡ Some w
