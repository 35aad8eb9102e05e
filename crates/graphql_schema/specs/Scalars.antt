-- What the scalars of a schema mean, by one word (GraphQL October 2021, 3.5 Scalars).
use Rattle.std.specs.Prelude.{ℤ, Bool, Result}
use Rattle.graphql_text.specs.declared.token.ScalarToken.{ScalarToken}
use Rattle.graphql_text.specs.declared.parse_error.ParseError.{ParseError}
use Rattle.graphql_scalars.specs.ScalarAnswers.{ScalarAnswer}
use Rattle.graphql_names.specs.Names.{Bytes}
use Rattle.graphql_values.specs.declared.input_value.InputValue.{InputValue}

-- of scalars `S`, and of checks `C` of types
pub record Scalars (S C : Type 0) : Type 1 where
  -- the scalar that a literal token stands for
  pub reads : ScalarToken → Result S ParseError
  -- the scalar of a truth value, of a number, and of a text
  pub of_bool : Bool → S
  pub of_int : ℤ → S
  pub of_text : Bytes → S
  -- whether two are the same
  pub eq : S → S → Bool
  -- what it answers
  pub answer : S → ScalarAnswer
  -- what a check accepts
  pub accepts : C → InputValue S → Type 0
