-- What look-ahead sees of a value that a document writes (GraphQL October 2021, 2.10 Variables).
use Rattle.std.specs.Prelude.{Option, None}
use Rattle.std.specs.Option.{option_map}
use Rattle.graphql_text.specs.declared.text.Text.{Text}
use Rattle.graphql_values.specs.declared.input_value.InputValue.{InputValue, fold-InputValue}
use Rattle.graphql_values.specs.declared.input_value.InputValue.TheOpen.{InputValue-F}
use Rattle.graphql_values.specs.declared.input_value.InputValue.TheVariants as value
use Rattle.graphql_written_out.specs.Filled.{value_or_null}
use Rattle.graphql_written_out.specs.FinalVariables.{value_in}
use Rattle.graphql_written_out.specs.declared.final_variables.FinalVariables.{FinalVariables}

module _ {S : Type 0} (given : Text → Option (InputValue S)) where
  -- one layer of a value, of whose parts it is known what is seen of them
  abbrev pub seen_layer : InputValue-F S (InputValue S) → InputValue S
  seen_layer InputValue-F.Null = value.Null
  seen_layer (InputValue-F.Scalar scalar) = value.Scalar scalar
  seen_layer (InputValue-F.Enum name) = value.Enum name
  seen_layer (InputValue-F.Variable name) = value_or_null (given name)
  seen_layer (InputValue-F.List items) = value.List items
  seen_layer (InputValue-F.Object pairs) = value.Object pairs

  -- the value with what is given for each variable in its stead, and null where nothing is
  abbrev pub value_seen : InputValue S → InputValue S
  value_seen = fold-InputValue S (InputValue S) seen_layer

module _ {S : Type 0} where
  -- the value of a variable: a variable that stands in it is null
  abbrev pub seen_alone : InputValue S → InputValue S
  seen_alone = value_seen (λ _. None)

  -- what is seen of a variable that has a value
  abbrev pub seen_value : FinalVariables S → Text → Option (InputValue S)
  seen_value variables name = option_map seen_alone (value_in variables name)

  -- a value of a document, where variables have these values
  abbrev pub seen_in : FinalVariables S → InputValue S → InputValue S
  seen_in variables = value_seen (seen_value variables)
