-- How values are read (GraphQL October 2021, 2.9 Input Values).
use Rattle.std.specs.Prelude.{ℕ, zero, suc, Bool, true, false, List, Result}
use Rattle.graphql_text.specs.declared.token.Token.{Token}
use Rattle.graphql_text.specs.declared.token.ScalarToken.{ScalarToken}
use Rattle.graphql_text.specs.declared.parse_error.ParseError.{ParseError}
use Rattle.graphql_values.specs.declared.input_value.InputValue.{InputValue}
use Rattle.graphql_values.specs.declared.input_value.InputValue.TheVariants as v
use Rattle.graphql_grammar.specs.declared.kind.Kind.{Kind}
use Rattle.graphql_grammar.specs.declared.kind.Kind.TheVariants as k
use Rattle.graphql_grammar.specs.Kinds.{kind, only, names}
use Rattle.graphql_grammar.specs.Input.{At, Parser, ◌>>=◌, ◌>>◌, pure, refuse, left}
use Rattle.graphql_grammar.specs.Steps.{when, token, expect, name, name_of, any_scalar, located}
use Rattle.graphql_grammar.specs.Steps.{items_between}

-- a name and what stands behind its colon
abbrev pub name_and : {A : Type 0} → Parser A → Parser (At (List ℕ) × A)
name_and inner = do
  key ← located name
  expect k.Colon
  x ← inner
  pure (key, x)

module _ {S : Type 0} (reads : ScalarToken → Result S ParseError) (of_bool : Bool → S) where
  abbrev pub ValueAt : Type 0
  ValueAt = At (InputValue S)

  -- the words `true`, `false` and `null`; any other name is an enum's value
  abbrev pub word_by : Kind → List ℕ → InputValue S
  word_by k.True n = v.Scalar (of_bool true)
  word_by k.False n = v.Scalar (of_bool false)
  word_by k.Null n = v.Null
  word_by w n = v.Enum n

  -- what a word is as a value
  abbrev pub word_of : Token → InputValue S
  word_of x = word_by (kind x) (name_of x)

  abbrev pub word_literal : Parser (InputValue S)
  word_literal = token names word_of

  -- a scalar, else a word
  abbrev pub word_or_scalar : Parser (InputValue S)
  word_or_scalar = when (only k.Scalar) (do s ← any_scalar reads; pure (v.Scalar s)) word_literal

  abbrev pub variable : Parser (InputValue S)
  variable = do
    expect k.Dollar
    n ← name
    pure (v.Variable n)

  -- no variable stands in a constant
  abbrev pub variable_or : Bool → Parser (InputValue S)
  variable_or true = word_or_scalar
  variable_or false = when (only k.Dollar) variable word_or_scalar

  module _ (inner : Parser ValueAt) where
    abbrev pub list_literal : Parser (InputValue S)
    list_literal = do
      xs ← items_between k.BracketOpen k.BracketClose inner
      pure (v.List xs)

    abbrev pub object_literal : Parser (InputValue S)
    object_literal = do
      ps ← items_between k.CurlyOpen k.CurlyClose (name_and inner)
      pure (v.Object ps)

  -- one level, with the parser of what stands inside it
  unfoldable pub value_level : Bool → Parser ValueAt → Parser (InputValue S)
  value_level is_const inner = when (only k.BracketOpen) (list_literal inner)
      (when (only k.CurlyOpen) (object_literal inner) (variable_or is_const))

  unfoldable pub value_from : Bool → ℕ → Parser ValueAt
  value_from is_const zero = refuse
  value_from is_const (suc n) = located (value_level is_const (value_from is_const n))

  -- each level takes a token, so the count of those that are left is enough
  unfoldable pub value : Bool → Parser ValueAt
  value is_const = λ i. value_from is_const (suc (left i)) i
