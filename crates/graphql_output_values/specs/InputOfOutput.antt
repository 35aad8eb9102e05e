-- The input value that stands for a value of an answer (GraphQL October 2021, 2.9 Input Values, 7.1
-- Response Format).
use Rattle.std.specs.Prelude.{List, map}
use Rattle.graphql_output_values.specs.declared.object.Object.{Object}
use Rattle.graphql_output_values.specs.declared.value.Value.{Value, fold-Value}
use Rattle.graphql_output_values.specs.declared.value.Value.TheFolds.{fold-Object}
use Rattle.graphql_output_values.specs.declared.value.Value.TheOpen.{Value-F, Object-F}
use Rattle.graphql_values.specs.declared.input_value.InputValue.{InputValue}
use Rattle.graphql_values.specs.declared.input_value.InputValue.TheVariants as value
use Rattle.graphql_values.specs.InputValues.{Pair, unplaced, unplaced_pair}

module _ {S : Type 0} where
  -- one layer, of whose parts the input values stand, and an object: in no text, without enums and
  -- variables
  abbrev pub input_layer : Value-F S (InputValue S) (List (Pair (InputValue S))) → InputValue S
  input_layer Value-F.Null = value.Null
  input_layer (Value-F.Scalar s) = value.Scalar s
  input_layer (Value-F.List items) = value.List (map unplaced items)
  input_layer (Value-F.Object fields) = value.Object fields

  abbrev pub fields_layer : Object-F S (InputValue S) (List (Pair (InputValue S)))
      → List (Pair (InputValue S))
  fields_layer o = map unplaced_pair o.fields

  abbrev pub input_of : Value S → InputValue S
  input_of = fold-Value S (InputValue S) (List (Pair (InputValue S))) input_layer fields_layer

  abbrev pub input_fields : Object S → List (Pair (InputValue S))
  input_fields = fold-Object S (InputValue S) (List (Pair (InputValue S))) input_layer fields_layer
