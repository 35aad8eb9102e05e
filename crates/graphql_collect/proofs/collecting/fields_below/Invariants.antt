use Rattle.std.proofs.Common.{◌+◌, ◌≤◌, length, map, take, []}
use Rattle.graphql_collect.specs.Sizes.{left_in, size_below}
use Rattle.std.specs.List.{flat_map}
use Rattle.graphql_collected.specs.Requests.{fields_in, fragments_in}
use Rattle.graphql_collect.specs.Collecting.{WalkedIn, below_in}
use Rattle.graphql_collect.proofs.collecting.fields_below.Given as goal

abbrev pub invariant-loop-occurrence : goal.invariant-loop-occurrence
invariant-loop-occurrence g l = record {
  walked : WalkedIn g.S.ScalarValue.answer l.request l.object
      (flat_map (fields_in g.S.ScalarValue.answer l.request l.object) (map (below_in l.request) (take l.occurrence-index l.group)))
      [] [] l.visited.keys l.found;
  sized : length l.found + left_in l.visited.keys (fragments_in l.request) ≤ size_below (take l.occurrence-index l.group) + left_in [] (fragments_in l.request);
}
