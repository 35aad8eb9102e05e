-- Which selections are left out (GraphQL October 2021, 3.13.1 @skip, 3.13.2 @include).
use Rattle.std.specs.Prelude.{Bool, true, false, not, Option, Some, None, codes, if◌then◌else◌}
use Rattle.std.specs.List.{list_any}
use Rattle.std.specs.Option.{option_and_then, option_map}
use Rattle.std.specs.Str.{bytes_eq}
use Rattle.graphql_text.specs.declared.text.Text.{Text}
use Rattle.graphql_scalars.specs.ScalarAnswers.{ScalarAnswer, as_bool}
use Rattle.graphql_values.specs.declared.input_value.InputValue.{InputValue, out-InputValue}
use Rattle.graphql_values.specs.declared.input_value.InputValue.TheOpen.{InputValue-F}
use Rattle.graphql_tree.specs.Arguments.{value_of}
use Rattle.graphql_tree.specs.Documents.{arguments_in}
use Rattle.graphql_tree.specs.declared.directive.Directive.{Directive}
use Rattle.graphql_written_out.specs.Filled.{filled}
use Rattle.graphql_written_out.specs.Trees.{Directives}

abbrev pub is_true : Option Bool → Bool
is_true (Some b) = b
is_true None = false

abbrev pub is_false : Option Bool → Bool
is_false (Some b) = not b
is_false None = false

-- `answer`: what a scalar answers
module _ {S : Type 0} (answer : S → ScalarAnswer) where
  abbrev pub truth_layer : InputValue-F S (InputValue S) → Option Bool
  truth_layer (InputValue-F.Scalar scalar) = as_bool (answer scalar)
  truth_layer _ = None

  -- the truth value of a value, if it is one
  abbrev pub truth_of : InputValue S → Option Bool
  truth_of value = truth_layer (out-InputValue S value)

-- `given`: the final values of the variables
module _ {S : Type 0} (answer : S → ScalarAnswer) (given : Text → Option (InputValue S)) where
  -- the truth value of a literal with the values of variables in their stead
  abbrev pub truth : InputValue S → Option Bool
  truth literal = option_and_then (truth_of answer) (filled given literal)

  -- the truth value of a directive's argument `if`
  abbrev pub condition : Directive S → Option Bool
  condition d = option_and_then (λ literal. truth literal.item)
      (value_of (codes "if") (arguments_in d.arguments))

  -- `skip` where its condition is not false, `include` where it is not true: what is no truth value
  -- leaves out in either case
  unfoldable pub leaves_out : Directive S → Bool
  leaves_out d =
      if bytes_eq d.name.item (codes "skip") then not (is_false (condition d))
      else if bytes_eq d.name.item (codes "include") then not (is_true (condition d))
      else false

  -- one such directive is enough
  abbrev pub left_out : Directives S → Bool
  left_out directives = list_any (λ d. leaves_out d.item) directives
