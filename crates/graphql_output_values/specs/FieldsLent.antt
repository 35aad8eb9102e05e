-- What an iterator of fields whose values can be written to has left.
use Rattle.std.specs.Prelude.{List}
use Rattle.std.specs.Borrow.{GName}
use Rattle.std.specs.Slice.Iter.{iter_mut_rest, iter_mut_name}
use Rattle.graphql_output_values.specs.Objects.{Pair}
use Rattle.graphql_output_values.specs.declared.object.fields_mut.FieldsMut.{FieldsMut}
use Rattle.graphql_output_values.specs.declared.value.Value.{Value}

module _ {S : Type 0} where
  -- the fields that are left
  abbrev pub fields_left : FieldsMut S → List (Pair (Value S))
  fields_left fields = iter_mut_rest fields.rest

  -- the name of the loan
  abbrev pub fields_name : FieldsMut S → GName
  fields_name fields = iter_mut_name fields.rest
