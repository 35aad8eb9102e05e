use Rattle.std.proofs.Common.{◌≡◌, ◌++◌, map, length}
use Rattle.std.specs.Vec.Iter.{into_iter_items, into_iter_len}
use Rattle.graphql_values.specs.InputValues.{unplaced_pair}
use Rattle.graphql_values.proofs.input_value.pushed.unlocated_fields.Given as goal

abbrev pub invariant-loop-field : goal.invariant-loop-field
invariant-loop-field g l = record {
  taken : l.yielded ++ into_iter_items l.field-iterator ≡ l.fn.given.items;
  counted : length (into_iter_items l.field-iterator) ≡ into_iter_len l.field-iterator;
  made : l.fields ≡ map unplaced_pair l.yielded;
}
