-- What variables read, from what their parts read.
use Rattle.std.proofs.Common.{◌≡◌, Bool, true, List, Result, Ok, Err, ◌∙◌}
use Rattle.graphql_text.specs.declared.position.SourcePosition.{SourcePosition}
use Rattle.graphql_text.specs.declared.token.ScalarToken.{ScalarToken}
use Rattle.graphql_text.specs.declared.parse_error.ParseError.{ParseError}
use Rattle.graphql_values.specs.declared.input_value.InputValue.{InputValue}
use Rattle.graphql_tree.specs.declared.variable.VariableDefinitions.{VariableDefinitions}
use Rattle.graphql_grammar.specs.declared.kind.Kind.TheVariants as k
use Rattle.graphql_grammar.specs.Input.{At, Input, Fault, Parser, ◌>>=◌, pure, peek}
use Rattle.graphql_grammar.specs.Steps.{expect, some_between}
use Rattle.graphql_grammar.proofs.Parts.{then_read, then_refused, located_read, located_refused}
use Rattle.graphql_value_syntax.specs.ReadValues.{value}
use Rattle.graphql_value_syntax.specs.ReadDirectives.{VariableWith, default_value, variable_definition, variable_definitions}

module _ {S : Type 0} (reads : ScalarToken → Result S ParseError) (of_bool : Bool → S) where
  abbrev pub Definitions : Type 0
  Definitions = List (VariableWith reads of_bool)

  abbrev pub definitions : Parser Definitions
  definitions = some_between k.ParenOpen k.ParenClose (variable_definition reads of_bool)

  abbrev of_definitions : Definitions → Parser (VariableDefinitions S)
  of_definitions ds = pure (record { items = ds })

  pub variables_read : (i : Input) {j : Input} {ds : Definitions} {start : SourcePosition} {y : At (VariableDefinitions S)} → definitions i ≡ Ok (ds, j)
      → start ≡ (peek i).span.start → y ≡ record { item = record { items = ds }; span = record { start = start; end = j.end } } → variable_definitions reads of_bool i ≡ Ok (y, j)
  unfolding variable_definitions
  variables_read i read begins is = located_read (definitions >>= of_definitions) (then_read definitions of_definitions read) begins is

  pub variables_refused : (i : Input) {e : Fault} → definitions i ≡ Err e → variable_definitions reads of_bool i ≡ Err e
  unfolding variable_definitions
  variables_refused i refused = located_refused (definitions >>= of_definitions) (then_refused definitions of_definitions refused)

  abbrev behind_equals : Unit {0} → Parser (At (InputValue S))
  behind_equals u = value reads of_bool true

  pub default_read : (i j : Input) {m : Input} {u : Unit {0}} {x : At (InputValue S)} → expect k.Equals i ≡ Ok (u, j) → value reads of_bool true j ≡ Ok (x, m) → default_value reads of_bool i ≡ Ok (x, m)
  default_read i j opened read = then_read (expect k.Equals) behind_equals opened ∙ read

  pub default_refused : (i j : Input) {u : Unit {0}} {e : Fault} → expect k.Equals i ≡ Ok (u, j) → value reads of_bool true j ≡ Err e → default_value reads of_bool i ≡ Err e
  default_refused i j opened refused = then_read (expect k.Equals) behind_equals opened ∙ refused

  pub default_absent : (i : Input) {e : Fault} → expect k.Equals i ≡ Err e → default_value reads of_bool i ≡ Err e
  default_absent i refused = then_refused (expect k.Equals) behind_equals refused
