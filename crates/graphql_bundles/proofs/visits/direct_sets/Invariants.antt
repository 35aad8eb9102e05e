use Rattle.std.proofs.Common.{◌+◌, ◌*◌, ◌≤◌, List, take}
use Rattle.graphql_bundles.specs.Conflicts.{places}
use Rattle.graphql_tree.specs.declared.document.Fragment.{Fragment}
use Rattle.graphql_merging.specs.Tables.{pieces_of}
use Rattle.graphql_bundles.specs.Counted.{fields_of_sets}
use Rattle.graphql_bundles.specs.Direct.{TellsDirects}
use Rattle.graphql_bundles.proofs.visits.direct_sets.Given as goal

-- the sets so far
abbrev pub invariant-loop-number : goal.invariant-loop-number
invariant-loop-number g l = record {
  counted : l.comparisons ≤ l.initial.comparisons + fields_of_sets l.table (take l.number-index l.sets) * fields_of_sets l.table (take l.number-index l.sets);
  told : (fragments : List (Fragment g.row.S.Denot))
      → TellsDirects g.S.PartialEq.eq l.schema.types (pieces_of fragments l.table) (take l.number-index l.sets) (places l.initial.told) (places l.told);
}
