-- What a token means as a scalar whose integers may be wider than 32 bits, and what the scalar
-- answers (GraphQL October 2021, 2.9 Input Values, 3.5 Scalars).
use Rattle.std.specs.Prelude.{ℕ, List, Result, Ok, Err}
use Rattle.graphql_text.specs.declared.token.ScalarToken.{ScalarToken}
use Rattle.graphql_text.specs.declared.token.ScalarToken.TheVariants as token
use Rattle.graphql_text.specs.declared.parse_error.ParseError.{ParseError}
use Rattle.graphql_scalars.specs.DefaultScalar as default
use Rattle.graphql_scalars.specs.ScalarAnswers.{ScalarAnswer, integer, boolean, text}
use Rattle.graphql_scalars.specs.declared.default_scalar.DefaultScalarValue.{DefaultScalarValue}
use Rattle.graphql_scalars.specs.declared.default_scalar.DefaultScalarValue.TheVariants as narrow
use Rattle.graphql_service_tests.specs.declared.service.wide_scalar.WideScalar.{WideScalar}
use Rattle.graphql_service_tests.specs.declared.service.wide_scalar.WideScalar.TheVariants as wide

-- the same scalar
abbrev pub widened : DefaultScalarValue → WideScalar
widened (narrow.Int n) = wide.Int n
widened (narrow.String t) = wide.String t
widened (narrow.Boolean b) = wide.Boolean b

-- the same scalar, or the same refusal
abbrev pub as_read : Result DefaultScalarValue ParseError → Result WideScalar ParseError
as_read (Ok scalar) = Ok (widened scalar)
as_read (Err e) = Err e

-- the same scalar, or an integer of these digits
abbrev pub or_long : List ℕ → Result DefaultScalarValue ParseError → Result WideScalar ParseError
or_long digits (Ok scalar) = Ok (widened scalar)
or_long digits (Err e) = Ok (wide.Long digits)

-- strings and integers, however wide; no numbers with a fraction
abbrev pub reads : ScalarToken → Result WideScalar ParseError
reads (token.Int digits) = or_long digits (default.reads (token.Int digits))
reads (token.String source) = as_read (default.reads (token.String source))
reads (token.Float source) = as_read (default.reads (token.Float source))

-- a wide integer answers its digits
abbrev pub wide_answer : WideScalar → ScalarAnswer
wide_answer (wide.Int n) = integer n
wide_answer (wide.Long digits) = text digits
wide_answer (wide.String t) = text t
wide_answer (wide.Boolean b) = boolean b
