use Rattle.std.proofs.Common.{◌≡◌, ◌++◌, map, length}
use Rattle.std.specs.Vec.Iter.{into_iter_items, into_iter_len}
use Rattle.graphql_output_values.specs.Values.{Turns, map_scalars, map_field}
use Rattle.graphql_output_values.proofs.value.Value.+map_scalars.Given as goal

abbrev pub invariant-map_fields-loop-field : goal.invariant-map_fields-loop-field
invariant-map_fields-loop-field g l = record {
  taken : l.yielded ++ into_iter_items l.field-iterator ≡ l.fn.fields;
  counted : length (into_iter_items l.field-iterator) ≡ into_iter_len l.field-iterator;
  made : (f : g.row.S.Denot → g.row.T.Denot) → Turns (goal.F-post g l.turn) f → l.all ≡ map (map_field f) l.yielded;
}

abbrev pub invariant-map_items-loop-item : goal.invariant-map_items-loop-item
invariant-map_items-loop-item g l = record {
  taken : l.yielded ++ into_iter_items l.item-iterator ≡ l.fn.items;
  counted : length (into_iter_items l.item-iterator) ≡ into_iter_len l.item-iterator;
  made : (f : g.row.S.Denot → g.row.T.Denot) → Turns (goal.F-post g l.turn) f → l.all ≡ map (map_scalars f) l.yielded;
}
