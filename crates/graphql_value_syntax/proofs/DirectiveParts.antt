-- What arguments and directives read, from what their parts read.
use Rattle.std.proofs.Common.{◌≡◌, ◌≢◌, ℕ, Bool, List, [], ◌∷◌, Option, Some, None, Result, Ok, Err, refl, ap, ◌∙◌}
use Rattle.graphql_text.specs.declared.position.SourcePosition.{SourcePosition}
use Rattle.graphql_text.specs.declared.token.ScalarToken.{ScalarToken}
use Rattle.graphql_text.specs.declared.parse_error.ParseError.{ParseError}
use Rattle.graphql_tree.specs.declared.directive.Arguments.{Arguments}
use Rattle.graphql_tree.specs.declared.directive.Directive.{Directive}
use Rattle.graphql_values.specs.declared.input_value.InputValue.{InputValue}
use Rattle.graphql_grammar.specs.declared.kind.Kind.TheVariants as k
use Rattle.graphql_grammar.specs.Kinds.{only}
use Rattle.graphql_grammar.specs.Input.{At, Input, Fault, Parser, ◌>>=◌, pure, peek}
use Rattle.graphql_grammar.specs.Steps.{all, some_between}
use Rattle.graphql_grammar.proofs.Parts.{then_read, then_refused, located_read, located_refused}
use Rattle.graphql_value_syntax.specs.ReadValues.{name_and, value}
use Rattle.graphql_value_syntax.specs.ReadDirectives.{some_of, arguments, directive, directives}

some_of_found : {A : Type 0} (xs : List A) → xs ≢ [] → some_of xs ≡ Some xs
some_of_found [] some = absurd (some refl)
some_of_found (x ∷ xs) some = refl

module _ {S : Type 0} (reads : ScalarToken → Result S ParseError) (of_bool : Bool → S) (is_const : Bool) where
  abbrev pub Pairs : Type 0
  Pairs = List (At (List ℕ) × At (InputValue S))

  abbrev pub pairs : Parser Pairs
  pairs = some_between k.ParenOpen k.ParenClose (name_and (value reads of_bool is_const))

  abbrev of_pairs : Pairs → Parser (Arguments S)
  of_pairs ps = pure (record { items = ps })

  pub arguments_read : (i : Input) {j : Input} {ps : Pairs} {start : SourcePosition} {y : At (Arguments S)} → pairs i ≡ Ok (ps, j)
      → start ≡ (peek i).span.start → y ≡ record { item = record { items = ps }; span = record { start = start; end = j.end } } → arguments reads of_bool is_const i ≡ Ok (y, j)
  unfolding arguments
  arguments_read i read begins is = located_read (pairs >>= of_pairs) (then_read pairs of_pairs read) begins is

  pub arguments_refused : (i : Input) {e : Fault} → pairs i ≡ Err e → arguments reads of_bool is_const i ≡ Err e
  unfolding arguments
  arguments_refused i refused = located_refused (pairs >>= of_pairs) (then_refused pairs of_pairs refused)

  abbrev pub Directives : Type 0
  Directives = List (At (Directive S))

  abbrev pub each : Parser Directives
  each = all (only k.At) (directive reads of_bool is_const) []

  abbrev of_found : Directives → Parser (Option Directives)
  of_found ds = pure (some_of ds)

  pub directives_refused : (i : Input) {e : Fault} → each i ≡ Err e → directives reads of_bool is_const i ≡ Err e
  unfolding directives
  directives_refused i refused = then_refused each of_found refused

  pub directives_none : (i j : Input) (ds : Directives) → ds ≡ [] → each i ≡ Ok (ds, j) → directives reads of_bool is_const i ≡ Ok (None, j)
  unfolding directives
  directives_none i j ds none read = then_read each of_found read ∙ ap (λ (xs : Directives). Ok (some_of xs, j)) none

  pub directives_some : (i j : Input) (ds : Directives) → ds ≢ [] → each i ≡ Ok (ds, j) → directives reads of_bool is_const i ≡ Ok (Some ds, j)
  unfolding directives
  directives_some i j ds some read = then_read each of_found read ∙ ap (λ (d : Option Directives). Ok (d, j)) (some_of_found ds some)
