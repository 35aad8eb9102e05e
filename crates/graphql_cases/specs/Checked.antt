-- What the types of a schema's text accept.
use Rattle.std.specs.Prelude.{⊤}
use Rattle.graphql_scalars.specs.declared.default_scalar.DefaultScalarValue.{DefaultScalarValue}
use Rattle.graphql_values.specs.declared.input_value.InputValue.{InputValue}
use Rattle.graphql_schema.specs.ScalarChecks.{IsInt, IsString, IsBoolean, IsId}
use Rattle.graphql_cases.specs.declared.checked.Checked.{Checked}
use Rattle.graphql_cases.specs.declared.checked.Checked.TheVariants as checked

-- the value is accepted
abbrev pub IsAccepted : Checked → InputValue DefaultScalarValue → Type 0
IsAccepted checked.Int value = IsInt value
IsAccepted checked.String value = IsString value
IsAccepted checked.Boolean value = IsBoolean value
IsAccepted checked.Id value = IsId value
IsAccepted checked.Anything value = ⊤
