use Rattle.std.proofs.Common.{◌+◌, ◌≤◌, length}
use Rattle.graphql_collect.specs.Sizes.{left_in, size, size_open, turns_ahead}
use Rattle.graphql_collected.specs.Requests.{fields_in, fragments_in, written_in}
use Rattle.graphql_collect.specs.Collecting.{LeadsIn, state, trees_in}
use Rattle.graphql_collect.proofs.collecting.collect.Given as goal

abbrev pub invariant-sets : goal.invariant-sets
invariant-sets g l = record {
  leads : LeadsIn g.S.ScalarValue.answer l.request l.object (fields_in g.S.ScalarValue.answer l.request l.object (written_in l.request l.fn.set))
      (state l.request l.initial.visited.keys l.initial.found) (trees_in l.request l.sets) l.visited.keys l.found;
  sized : length l.found + left_in l.visited.keys (fragments_in l.request) + size_open l.sets
      ≤ length l.initial.found + size l.fn.set + left_in l.initial.visited.keys (fragments_in l.request);
}

abbrev pub decreases-sets : goal.decreases-sets
decreases-sets g l = turns_ahead (fragments_in l.request) l.sets l.visited.keys
