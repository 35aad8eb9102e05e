use Rattle.std.proofs.Common.{◌≡◌, ◌+◌, ◌≤◌, length, vec_len, vec_capacity}
use Rattle.std.specs.Vec.Iter.{into_iter_items}
use Rattle.graphql_output_values.specs.Objects.{with_fields}
use Rattle.graphql_records.proofs.record.set_in_turn.Given as goal

-- the values that are left, set in turn, make what all make, and there is room for them
abbrev pub invariant-values : goal.invariant-values
invariant-values l = record {
  left : with_fields l.fields.items (into_iter_items l.name-iterator) ≡ with_fields l.fn.fields.items l.fn.values;
  room : vec_len l.fields + length (into_iter_items l.name-iterator) ≤ vec_capacity l.fields;
}
