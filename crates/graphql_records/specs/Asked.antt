-- What arguments ask of a table (GraphQL October 2021, 6.4.1 Coercing Field Arguments).
use Rattle.std.specs.Prelude.{ℤ, Option, Some, None, codes, option_and_then}
use Rattle.std.specs.Fmt.{signed_decimal}
use Rattle.graphql_names.specs.Names.{Bytes}
use Rattle.graphql_arguments.specs.ArgumentValues.{Given, value_named}
use Rattle.graphql_scalars.specs.declared.default_scalar.DefaultScalarValue.{DefaultScalarValue}
use Rattle.graphql_scalars.specs.declared.default_scalar.DefaultScalarValue.TheVariants as scalar
use Rattle.graphql_values.specs.declared.input_value.InputValue.{InputValue, out-InputValue}
use Rattle.graphql_values.specs.declared.input_value.InputValue.TheOpen.{InputValue-F}

-- the arguments of a field, of the default scalars
abbrev pub Asked : Type 0
Asked = Given DefaultScalarValue

-- the scalar that a value is
abbrev pub scalar_layer : {A : Type 0} → InputValue-F DefaultScalarValue A
    → Option DefaultScalarValue
scalar_layer (InputValue-F.Scalar s) = Some s
scalar_layer InputValue-F.Null = None
scalar_layer (InputValue-F.Enum n) = None
scalar_layer (InputValue-F.Variable n) = None
scalar_layer (InputValue-F.List xs) = None
scalar_layer (InputValue-F.Object ps) = None

abbrev pub scalar_of : InputValue DefaultScalarValue → Option DefaultScalarValue
scalar_of v = scalar_layer (out-InputValue DefaultScalarValue v)

-- the id that a scalar asks for: a text, or an integer by its decimal text
abbrev pub id_of_scalar : DefaultScalarValue → Option Bytes
id_of_scalar (scalar.String id) = Some id
id_of_scalar (scalar.Int z) = Some (signed_decimal z)
id_of_scalar (scalar.Boolean b) = None

abbrev pub id_asked : Asked → Option Bytes
id_asked given =
    option_and_then id_of_scalar (option_and_then scalar_of (value_named given (codes "id")))

abbrev pub int_of_scalar : DefaultScalarValue → Option ℤ
int_of_scalar (scalar.Int z) = Some z
int_of_scalar (scalar.String s) = None
int_of_scalar (scalar.Boolean b) = None

abbrev pub first_asked : Asked → Option ℤ
first_asked given =
    option_and_then int_of_scalar (option_and_then scalar_of (value_named given (codes "first")))
