use Rattle.std.proofs.Common.{◌≡◌, ◌++◌, map, length}
use Rattle.std.specs.Vec.Iter.{into_iter_items, into_iter_len}
use Rattle.graphql_execution_walk.specs.Asked.{map_nodes}
use Rattle.graphql_execution_walk.specs.declared.asked.Asked.TheVariants as asked
use Rattle.graphql_execution_walk.proofs.asked.+of_schema.Given as goal

abbrev pub invariant-items_of_schema-loop-item : goal.invariant-items_of_schema-loop-item
invariant-items_of_schema-loop-item g l = record {
  taken : l.yielded ++ into_iter_items l.item-iterator ≡ l.fn.items;
  counted : length (into_iter_items l.item-iterator) ≡ into_iter_len l.item-iterator;
  made : l.all ≡ map (map_nodes asked.Part) l.yielded;
}
