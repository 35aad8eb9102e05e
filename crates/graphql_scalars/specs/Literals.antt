-- What a token means to a type whose values are scalars, as a scalar of any type
-- (GraphQL October 2021, 2.9 Input Values, 3.5 Scalars).
use Rattle.std.specs.Prelude.{Option, Some, None, ℕ, ℤ, List, Result, Ok, Err}
use Rattle.graphql_text.specs.Memory.{◌>>=◌}
use Rattle.graphql_text.specs.declared.token.ScalarToken.{ScalarToken}
use Rattle.graphql_text.specs.declared.token.ScalarToken.TheVariants as token
use Rattle.graphql_text.specs.declared.parse_error.ParseError.{ParseError}
use Rattle.graphql_text.specs.declared.parse_error.ParseError.TheVariants.{UnexpectedToken}
use Rattle.graphql_text.specs.Spelling.{scalar_source}
use Rattle.graphql_scalars.specs.IntValue.{int_value}
use Rattle.graphql_scalars.specs.StringValue.{string_value}

module _ {S : Type 0} where
  -- the token is none that is expected
  abbrev pub unexpected_token : ScalarToken → Result S ParseError
  unexpected_token t = Err (UnexpectedToken (scalar_source t))

  -- the scalar of the integer, if there is one
  abbrev pub int_or : (ℤ → S) → Option ℤ → Result S ParseError → Result S ParseError
  int_or of_int (Some z) refusal = Ok (of_int z)
  int_or of_int None refusal = refusal

  -- the scalar of a text, by the source text of a string
  abbrev pub scalar_of_text : (List ℕ → S) → Result (List ℕ) ParseError → Result S ParseError
  scalar_of_text of_text decoded = decoded >>= (λ t. Ok (of_text t))

  -- strings alone
  abbrev pub reads_text : (List ℕ → S) → ScalarToken → Result S ParseError
  reads_text of_text (token.String source) = scalar_of_text of_text (string_value source)
  reads_text of_text (token.Int source) = unexpected_token (token.Int source)
  reads_text of_text (token.Float source) = unexpected_token (token.Float source)

  -- integers of 32 bits alone
  abbrev pub reads_int : (ℤ → S) → ScalarToken → Result S ParseError
  reads_int of_int (token.String source) = unexpected_token (token.String source)
  reads_int of_int (token.Int source) =
      int_or of_int (int_value source) (unexpected_token (token.Int source))
  reads_int of_int (token.Float source) = unexpected_token (token.Float source)
