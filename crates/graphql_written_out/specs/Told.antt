-- The input value that an argument's value is.
use Rattle.std.specs.Prelude.{List, map, Option, Some, None}
use Rattle.std.specs.List.{filter_map}
use Rattle.std.specs.Option.{option_map}
use Rattle.graphql_text.specs.declared.text.Text.{Text}
use Rattle.graphql_values.specs.InputValues.{Placed, Pair}
use Rattle.graphql_values.specs.Variables.{given_pair}
use Rattle.graphql_values.specs.declared.input_value.InputValue.{InputValue}
use Rattle.graphql_values.specs.declared.input_value.InputValue.TheVariants as value
use Rattle.graphql_written_out.specs.Filled.{filled, item_or_null}
use Rattle.graphql_written_out.specs.FinalVariables.{value_in}
use Rattle.graphql_written_out.specs.declared.argument_value.ArgumentFields.{ArgumentFields}
use Rattle.graphql_written_out.specs.declared.argument_value.ArgumentItems.{ArgumentItems}
use Rattle.graphql_written_out.specs.declared.argument_value.ArgumentValue.{ArgumentValue}
use Rattle.graphql_written_out.specs.declared.argument_value.ArgumentValue.TheVariants as argument

module _ {S : Type 0} where
  -- what a part is: of a literal by the values of variables, else itself
  abbrev pub part_told : Option (Text → Option (InputValue S)) → InputValue S
      → Option (InputValue S)
  part_told (Some given) v = filled given v
  part_told None v = Some v

  abbrev pub item_told : Option (Text → Option (InputValue S)) → Placed (InputValue S)
      → Placed (InputValue S)
  item_told given x = item_or_null (record { item = part_told given x.item; span = x.span })

  abbrev pub field_told : Option (Text → Option (InputValue S)) → Pair (InputValue S)
      → Option (Pair (InputValue S))
  field_told given p = given_pair (p.0, record { item = part_told given p.1.item; span = p.1.span })

  -- what is yet to be read
  abbrev pub items_told : ArgumentItems S → List (Placed (InputValue S))
  items_told list = map (item_told (option_map (λ v. value_in v.now) list.variables)) list.items.now

  abbrev pub fields_told : ArgumentFields S → List (Pair (InputValue S))
  fields_told object =
      filter_map (field_told (option_map (λ v. value_in v.now) object.variables)) object.fields.now

  abbrev pub value_told : ArgumentValue S → InputValue S
  value_told argument.Null = value.Null
  value_told (argument.Scalar scalar) = value.Scalar scalar.now
  value_told (argument.Enum name) = value.Enum name.now
  value_told (argument.Variable name) = value.Variable name.now
  value_told (argument.List items) = value.List (items_told items)
  value_told (argument.Object fields) = value.Object (fields_told fields)

  -- at its place
  abbrev pub placed_value : Placed (ArgumentValue S) → Placed (InputValue S)
  placed_value x = record { item = value_told x.item; span = x.span }
