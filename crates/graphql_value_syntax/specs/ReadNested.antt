-- How lists and input objects are read without going down: how a value begins, and what is left to
-- read of those that are open (GraphQL October 2021, 2.9.7 List Value, 2.9.8 Input Object Values).
use Rattle.std.specs.Prelude.{Bool, [], ◌∷◌, ◌++◌, Result, Ok}
use Rattle.graphql_text.specs.declared.position.SourcePosition.{SourcePosition}
use Rattle.graphql_text.specs.declared.token.ScalarToken.{ScalarToken}
use Rattle.graphql_text.specs.declared.parse_error.ParseError.{ParseError}
use Rattle.graphql_values.specs.declared.input_value.InputValue.{InputValue}
use Rattle.graphql_values.specs.declared.input_value.InputValue.TheVariants as v
use Rattle.graphql_grammar.specs.declared.kind.Kind.{Kind}
use Rattle.graphql_grammar.specs.declared.kind.Kind.TheVariants as k
use Rattle.graphql_grammar.specs.Kinds.{only}
use Rattle.graphql_grammar.specs.Input.{At, Parser, ◌>>=◌, ◌>>◌, pure, peek}
use Rattle.graphql_grammar.specs.Steps.{when, expect, until}
use Rattle.graphql_value_syntax.specs.declared.nested.Open.{Open}
use Rattle.graphql_value_syntax.specs.declared.nested.Open.TheVariants as o
use Rattle.graphql_value_syntax.specs.declared.nested.Place.{Place}
use Rattle.graphql_value_syntax.specs.declared.nested.Place.TheVariants as p
use Rattle.graphql_value_syntax.specs.declared.nested.Begun.{Begun}
use Rattle.graphql_value_syntax.specs.declared.nested.Begun.TheVariants as how
use Rattle.graphql_value_syntax.specs.ReadParts.{key}
use Rattle.graphql_value_syntax.specs.ReadValues.{name_and, variable_or, value}

-- what ends where the last token that was read does
abbrev pub ending : {A : Type 0} → (SourcePosition → A) → Parser A
ending make = λ i. Ok (make i.end, i)

module _ {S : Type 0} where
  -- from one place to another
  abbrev pub between_places : SourcePosition → SourcePosition → InputValue S → At (InputValue S)
  between_places start end x = record { item = x; span = record { start = start; end = end } }

  -- the bracket that closes it
  abbrev pub closing : Open S → Kind
  closing (o.List start xs) = k.BracketClose
  closing (o.Object start ps) = k.CurlyClose

  -- the list or input object that ends there
  abbrev pub closed_value : Open S → SourcePosition → At (InputValue S)
  closed_value (o.List start xs) end = between_places start end (v.List xs)
  closed_value (o.Object start ps) end = between_places start end (v.Object ps)

  -- as far as the next value within it: in an input object a name and a colon
  abbrev pub place : Open S → Parser (Place S)
  place (o.List start xs) = pure (p.List start xs)
  place (o.Object start ps) = do
    n ← key
    pure (p.Object start ps n)

  -- with a value at that place
  abbrev pub held : Place S → At (InputValue S) → Open S
  held (p.List start xs) x = o.List start (xs ++ x ∷ [])
  held (p.Object start ps n) x = o.Object start (ps ++ (n, x) ∷ [])

module _ {S : Type 0} (reads : ScalarToken → Result S ParseError) (of_bool : Bool → S)
    (is_const : Bool) where
  -- the bracket that opens a list or an input object
  abbrev pub opening : Kind → Open S → Parser (Begun S)
  opening w x = do
    expect w
    pure (how.Opens x)

  -- a value that holds no other, and starts there
  abbrev pub whole_value : SourcePosition → Parser (Begun S)
  whole_value start = do
    x ← variable_or reads of_bool is_const
    ending (λ end. how.Whole (between_places start end x))

  -- how a value begins that starts there
  unfoldable pub begun_at : SourcePosition → Parser (Begun S)
  begun_at start = when (only k.BracketOpen) (opening k.BracketOpen (o.List start []))
      (when (only k.CurlyOpen) (opening k.CurlyOpen (o.Object start [])) (whole_value start))

  unfoldable pub value_start : Parser (Begun S)
  value_start = λ i. begun_at (peek i).span.start i

  -- what stands behind these values or fields, up to the closing bracket
  abbrev pub rest : Open S → Parser (At (InputValue S))
  rest (o.List start xs) = do
    ys ← until k.BracketClose (value reads of_bool is_const) xs
    ending (closed_value (o.List start ys))
  rest (o.Object start ps) = do
    qs ← until k.CurlyClose (name_and (value reads of_bool is_const)) ps
    ending (closed_value (o.Object start qs))

  abbrev pub rest_read : Begun S → Parser (At (InputValue S))
  rest_read (how.Whole x) = pure x
  rest_read (how.Opens x) = rest x
