-- Parts of productions that functions of their own read.
use Rattle.std.specs.Prelude.{ℕ, List, Result}
use Rattle.graphql_text.specs.declared.token.ScalarToken.{ScalarToken}
use Rattle.graphql_text.specs.declared.parse_error.ParseError.{ParseError}
use Rattle.graphql_grammar.specs.declared.kind.Kind.TheVariants as k
use Rattle.graphql_grammar.specs.Input.{At, Parser, ◌>>=◌, ◌>>◌, pure}
use Rattle.graphql_grammar.specs.Steps.{expect, name, any_scalar, located}

-- a name and the colon behind it
abbrev pub key : Parser (At (List ℕ))
key = do
  n ← located name
  expect k.Colon
  pure n

-- what is made of a name
abbrev pub by_name : {A : Type 0} → (List ℕ → A) → Parser A
by_name make = do
  n ← name
  pure (make n)

-- what is made of a scalar
abbrev pub by_scalar : {S A : Type 0} → (ScalarToken → Result S ParseError) → (S → A) → Parser A
by_scalar reads make = do
  s ← any_scalar reads
  pure (make s)
