-- How a number is read (GraphQL October 2021, 2.9.1 Int Value, 2.9.2 Float Value).
use Rattle.std.specs.Prelude.{ℕ, ◌||◌, List, [], ◌∷◌, if◌then◌else◌, ◌==◌, Result, Ok}
use Rattle.std.specs.Prelude.{encode_utf8_all}
use Rattle.std.specs.Char.{is_ascii_digit}
use Rattle.graphql_text.specs.declared.position.SourcePosition.{SourcePosition}
use Rattle.graphql_text.specs.declared.token.Token.{Token}
use Rattle.graphql_text.specs.declared.token.Token.TheVariants.{Scalar}
use Rattle.graphql_text.specs.declared.token.ScalarToken.TheVariants.{Float, Int}
use Rattle.graphql_text.specs.declared.token.LexerError.TheVariants.{UnexpectedCharacter}
use Rattle.graphql_text.specs.declared.token.LexerError.TheVariants.{UnexpectedEndOfFile}
use Rattle.graphql_text.specs.declared.class.Class.TheVariants as class
use Rattle.graphql_text.specs.Position.{step}
use Rattle.graphql_text.specs.Reading.{Place, Refusal, refused, ◌>>=◌, begins, past, past_one}
use Rattle.graphql_text.specs.Reading.{between}

-- one digit or more
unfoldable pub digits : Place → Result Place Refusal
digits p = digits_at p.at p.rest
  where
    digits_at : SourcePosition → List ℕ → Result Place Refusal
    digits_at at [] = refused UnexpectedEndOfFile at
    digits_at at (c ∷ cs) = if is_ascii_digit c then Ok (past class.Digit (step at c) cs)
        else refused (UnexpectedCharacter c) at

-- no digit
unfoldable pub no_digit : Place → Result Place Refusal
no_digit p = no_digit_at p.at p.rest
  where
    no_digit_at : SourcePosition → List ℕ → Result Place Refusal
    no_digit_at at [] = Ok (record { at = at; rest = [] })
    no_digit_at at (c ∷ cs) = if is_ascii_digit c then refused (UnexpectedCharacter c) at
        else Ok (record { at = at; rest = c ∷ cs })

-- 0, or digits that begin with another one
unfoldable pub whole : Place → Result Place Refusal
whole p = whole_at p.at p.rest
  where
    whole_at : SourcePosition → List ℕ → Result Place Refusal
    whole_at at [] = refused UnexpectedEndOfFile at
    whole_at at (c ∷ cs) = if c == 48 then no_digit (record { at = step at c; rest = cs })
        else digits (record { at = at; rest = c ∷ cs })

-- a point and digits, if a point comes next
unfoldable pub fraction : Place → Result Place Refusal
fraction p = if begins class.Point p then digits (past_one class.Point p) else Ok p

-- an exponent's letter, a sign or none, and digits, if such a letter comes next
unfoldable pub exponent : Place → Result Place Refusal
exponent p = if begins class.Exponent p
    then digits (past_one class.Sign (past_one class.Exponent p)) else Ok p

-- a number (2.9.1 Int Value, 2.9.2 Float Value)
unfoldable pub number : Place → Result (Token × Place) Refusal
number p = do
  w ← whole (past_one class.Minus p)
  f ← fraction w
  e ← exponent f
  Ok (
    (if begins class.Point w
        || begins class.Exponent w
        then Scalar (Float (encode_utf8_all (between p.rest e.rest)))
        else Scalar (Int (encode_utf8_all (between p.rest e.rest)))),
    e,
  )
