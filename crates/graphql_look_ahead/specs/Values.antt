-- The input values that are told by values, lists, objects and arguments of look-ahead.
use Rattle.std.specs.Prelude.{ℕ, List, [], map, Option, Some, None}
use Rattle.std.specs.Borrow.{Bor}
use Rattle.graphql_names.specs.Names as names
use Rattle.graphql_tree.specs.Arguments.{Argument}
use Rattle.graphql_values.specs.InputValues.{Placed, Pair}
use Rattle.graphql_values.specs.declared.input_value.InputValue.{InputValue}
use Rattle.graphql_values.specs.declared.input_value.InputValue.TheVariants as value
use Rattle.graphql_written_out.specs.declared.final_variables.FinalVariables.{FinalVariables}
use Rattle.graphql_look_ahead.specs.Seen.{seen_alone, seen_in}
use Rattle.graphql_look_ahead.specs.declared.argument.LookAheadArgument.{LookAheadArgument}
use Rattle.graphql_look_ahead.specs.declared.argument.LookAheadArguments.{LookAheadArguments}
use Rattle.graphql_look_ahead.specs.declared.argument.WrittenArguments.{WrittenArguments}
use Rattle.graphql_look_ahead.specs.declared.list.LookAheadList.{LookAheadList}
use Rattle.graphql_look_ahead.specs.declared.look_ahead_list.Iter.{Iter as ListIter}
use Rattle.graphql_look_ahead.specs.declared.look_ahead_object.Iter.{Iter as ObjectIter}
use Rattle.graphql_look_ahead.specs.declared.object.LookAheadObject.{LookAheadObject}
use Rattle.graphql_look_ahead.specs.declared.value.LookAheadValue.{LookAheadValue}
use Rattle.graphql_look_ahead.specs.declared.value.LookAheadValue.TheVariants as look_ahead

module _ {S : Type 0} where
  -- a value of a document where there are variables, else of a variable
  abbrev pub seen_by : Option (Bor (FinalVariables S)) → InputValue S → InputValue S
  seen_by (Some variables) v = seen_in variables.now v
  seen_by None v = seen_alone v

  -- an item of a list, and a field of an object, at their places
  abbrev pub item_seen : Option (Bor (FinalVariables S)) → Placed (InputValue S)
      → Placed (InputValue S)
  item_seen variables x = record { item = seen_by variables x.item; span = x.span }

  abbrev pub field_seen : Option (Bor (FinalVariables S)) → Pair (InputValue S)
      → Pair (InputValue S)
  field_seen variables p = (p.0, item_seen variables p.1)

  abbrev pub items_told : LookAheadList S → List (Placed (InputValue S))
  items_told list = map (item_seen list.variables) list.items.now

  abbrev pub fields_told : LookAheadObject S → List (Pair (InputValue S))
  fields_told object = map (field_seen object.variables) object.fields.now

  abbrev pub value_shown : LookAheadValue S → InputValue S
  value_shown look_ahead.Null = value.Null
  value_shown (look_ahead.Scalar scalar) = value.Scalar scalar.now
  value_shown (look_ahead.Enum name) = value.Enum name.now
  value_shown (look_ahead.List list) = value.List (items_told list)
  value_shown (look_ahead.Object object) = value.Object (fields_told object)

  -- at its place
  abbrev pub placed : Placed (LookAheadValue S) → Placed (InputValue S)
  placed x = record { item = value_shown x.item; span = x.span }

  -- with its name, at their places
  abbrev pub named_value : Placed (Bor (List ℕ)) × Placed (LookAheadValue S) → Pair (InputValue S)
  named_value p = (record { item = p.0.item.now; span = p.0.span }, placed p.1)

  -- what an iterator has yet to give
  abbrev pub items_ahead : ListIter S → List (Placed (InputValue S))
  items_ahead it = map (item_seen it.variables) it.items.now

  abbrev pub fields_left : ObjectIter S → List (Pair (InputValue S))
  fields_left it = map (field_seen it.variables) it.fields.now

  -- an argument of a document, with its name, at their places
  abbrev pub argument_seen : FinalVariables S → Argument S → Argument S
  argument_seen variables a = (a.0, record { item = seen_in variables a.1.item; span = a.1.span })

  abbrev pub argument_told : LookAheadArgument S → Argument S
  argument_told a = (
    record { item = a.name.now; span = a.name_span.now },
    record { item = seen_in a.variables.now a.value.now.item; span = a.value.now.span },
  )

  abbrev pub written_left : WrittenArguments S → List (Argument S)
  written_left it = map (argument_seen it.variables.now) it.written.now

  abbrev pub left_of : Option (WrittenArguments S) → List (Argument S)
  left_of None = []
  left_of (Some written) = written_left written

  abbrev pub arguments_left : LookAheadArguments S → List (Argument S)
  arguments_left it = left_of it.written

  -- the first argument of a name
  abbrev pub argument_named : List (Argument S) → List ℕ → Option (Argument S)
  argument_named = names.named (λ a. a.0.item)
