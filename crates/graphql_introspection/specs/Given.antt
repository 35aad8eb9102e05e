-- What the fields of introspection read of their arguments (GraphQL October 2021, 4.2 Schema
-- Introspection).
use Rattle.std.specs.Prelude.{Bool, false, Option, Some, None, codes}
use Rattle.std.specs.Option.{option_and_then, option_map_or}
use Rattle.graphql_names.specs.Names.{Bytes}
use Rattle.graphql_scalars.specs.ScalarAnswers.{ScalarAnswer, as_bool, as_text}
use Rattle.graphql_values.specs.declared.input_value.InputValue.{InputValue, out-InputValue}
use Rattle.graphql_values.specs.declared.input_value.InputValue.TheOpen.{InputValue-F}
use Rattle.graphql_arguments.specs.ArgumentValues.{Given, value_named}

abbrev pub or_false : Option Bool → Bool
or_false (Some b) = b
or_false None = false

-- `answer`: what a scalar answers
module _ {S : Type 0} (answer : S → ScalarAnswer) where
  abbrev pub truth_layer : InputValue-F S (InputValue S) → Bool
  truth_layer (InputValue-F.Scalar scalar) = or_false (as_bool (answer scalar))
  truth_layer _ = false

  -- the value is `true`: `null` is not
  abbrev pub is_true : InputValue S → Bool
  is_true value = truth_layer (out-InputValue S value)

  -- what is deprecated is asked for
  abbrev pub includes_deprecated : Given S → Bool
  includes_deprecated given =
      option_map_or is_true (value_named given (codes "includeDeprecated")) false

  abbrev pub text_layer : InputValue-F S (InputValue S) → Option Bytes
  text_layer (InputValue-F.Scalar scalar) = as_text (answer scalar)
  text_layer _ = None

  -- the text of a value, if it is one
  abbrev pub text_of : InputValue S → Option Bytes
  text_of value = text_layer (out-InputValue S value)

  -- the name that is asked for, if it is a text
  abbrev pub name_asked : Given S → Option Bytes
  name_asked given = option_and_then text_of (value_named given (codes "name"))
