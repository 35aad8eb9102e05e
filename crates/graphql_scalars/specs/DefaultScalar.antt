-- What a token means as a scalar of the default type (GraphQL October 2021, 2.9 Input Values, 3.5
-- Scalars).
use Rattle.std.specs.Prelude.{Result, Err, codes}
use Rattle.graphql_text.specs.declared.token.ScalarToken.{ScalarToken}
use Rattle.graphql_text.specs.declared.token.ScalarToken.TheVariants as token
use Rattle.graphql_text.specs.declared.parse_error.ParseError.{ParseError}
use Rattle.graphql_text.specs.declared.parse_error.ParseError.TheVariants.{ExpectedScalarError}
use Rattle.graphql_scalars.specs.declared.default_scalar.DefaultScalarValue.{DefaultScalarValue}
use Rattle.graphql_scalars.specs.declared.default_scalar.DefaultScalarValue.TheVariants as scalar
use Rattle.graphql_scalars.specs.IntValue.{int_value}
use Rattle.graphql_scalars.specs.Literals.{unexpected_token, int_or, scalar_of_text}
use Rattle.graphql_scalars.specs.ScalarAnswers.{ScalarAnswer, integer, boolean, text}
use Rattle.graphql_scalars.specs.StringValue.{string_value}

-- strings, and integers of 32 bits; the type has no numbers with a fraction
abbrev pub reads : ScalarToken → Result DefaultScalarValue ParseError
reads (token.String source) = scalar_of_text scalar.String (string_value source)
reads (token.Int source) = int_or scalar.Int (int_value source)
    (unexpected_token (token.Int source))
reads (token.Float source) = Err (ExpectedScalarError (codes "There needs to be a Float type"))

-- what a scalar answers
abbrev pub scalar_answer : DefaultScalarValue → ScalarAnswer
scalar_answer (scalar.Int n) = integer n
scalar_answer (scalar.Boolean b) = boolean b
scalar_answer (scalar.String t) = text t
