-- What a literal is once variables have their values (GraphQL October 2021, 6.4.1 Coercing Field
-- Arguments).
use Rattle.std.specs.Prelude.{map, Option, Some, None}
use Rattle.std.specs.List.{filter_map}
use Rattle.graphql_text.specs.declared.text.Text.{Text}
use Rattle.graphql_values.specs.InputValues.{Placed, Pair}
use Rattle.graphql_values.specs.Variables.{given_pair}
use Rattle.graphql_values.specs.declared.input_value.InputValue.{InputValue, fold-InputValue}
use Rattle.graphql_values.specs.declared.input_value.InputValue.TheOpen.{InputValue-F}
use Rattle.graphql_values.specs.declared.input_value.InputValue.TheVariants as value

-- an item of a list that becomes nothing is null
abbrev pub value_or_null : {S : Type 0} → Option (InputValue S) → InputValue S
value_or_null (Some v) = v
value_or_null None = value.Null

abbrev pub item_or_null : {S : Type 0} → Placed (Option (InputValue S)) → Placed (InputValue S)
item_or_null x = record { item = value_or_null x.item; span = x.span }

module _ {S : Type 0} (given : Text → Option (InputValue S)) where
  -- one layer of a literal, of whose parts it is known what they become: a field of an object that
  -- becomes nothing is absent
  abbrev pub filled_layer : InputValue-F S (Option (InputValue S)) → Option (InputValue S)
  filled_layer InputValue-F.Null = Some value.Null
  filled_layer (InputValue-F.Scalar scalar) = Some (value.Scalar scalar)
  filled_layer (InputValue-F.Enum name) = Some (value.Enum name)
  filled_layer (InputValue-F.Variable name) = given name
  filled_layer (InputValue-F.List items) = Some (value.List (map item_or_null items))
  filled_layer (InputValue-F.Object pairs) = Some (value.Object (filter_map given_pair pairs))

  -- the literal with each variable's value in its stead; nothing where it is a variable without a
  -- value
  abbrev pub filled : InputValue S → Option (InputValue S)
  filled = fold-InputValue S (Option (InputValue S)) filled_layer

  -- the same of the value of a list's item, and of a field
  abbrev pub filled_item : Placed (InputValue S) → Placed (InputValue S)
  filled_item x = item_or_null (record { item = filled x.item; span = x.span })

  -- a field with the values of variables in its value, if that is given
  abbrev pub filled_pair : Pair (InputValue S) → Option (Pair (InputValue S))
  filled_pair p = given_pair (p.0, record { item = filled p.1.item; span = p.1.span })
