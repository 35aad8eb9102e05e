-- The input value that a given value is, lent or made.
use Rattle.std.specs.Borrow.{Bor}
use Rattle.std.specs.Prelude.{List, map}
use Rattle.graphql_names.specs.Names.{Bytes}
use Rattle.graphql_values.specs.InputValues.{Placed}
use Rattle.graphql_values.specs.declared.input_value.InputValue.{InputValue}
use Rattle.graphql_arguments.specs.ArgumentValues.{Given, NamedValue}
use Rattle.graphql_arguments.specs.declared.arguments.Arguments.{Arguments}
use Rattle.graphql_arguments.specs.declared.given.GivenValue.{GivenValue}
use Rattle.graphql_arguments.specs.declared.given.GivenValue.TheVariants as given

module _ {S : Type 0} where
  abbrev pub value_told : GivenValue S → InputValue S
  value_told (given.Lent v) = v.now
  value_told (given.Made v) = v

  -- with its name, at its place
  abbrev pub pair_told : Bytes × Placed (GivenValue S) → NamedValue S
  pair_told p = (p.0, record { item = value_told p.1.item; span = p.1.span })

  -- the values that lent ones stand for, by their names
  abbrev pub values_told : List (Bytes × Placed (GivenValue S)) → Given S
  values_told values = map pair_told values

  -- what is held of a field's arguments
  abbrev pub arguments_told : Arguments S → Given S
  arguments_told arguments = values_told arguments.held.entries

  -- a name with its value, at no place
  abbrev pub named_value : NamedValue S → Bytes × InputValue S
  named_value v = (v.0, v.1.item)

  abbrev pub named_lent : Bor Bytes × Bor (InputValue S) → Bytes × InputValue S
  named_lent v = (v.0.now, v.1.now)
