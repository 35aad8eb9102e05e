use Rattle.std.proofs.Common.{◌+◌, ◌≤◌, List, take}
use Rattle.graphql_bundles.specs.Conflicts.{places}
use Rattle.graphql_tree.specs.declared.document.Fragment.{Fragment}
use Rattle.graphql_bundles.specs.Direct.{ComparesBefore}
use Rattle.graphql_bundles.proofs.direct.compare_before.Given as goal

-- those that stand before it so far
abbrev pub invariant-loop-other : goal.invariant-loop-other
invariant-loop-other g l = record {
  counted : l.comparisons ≤ l.initial.comparisons + l.other-index;
  told : (fragments : List (Fragment g.row.S.Denot))
      → ComparesBefore g.S.PartialEq.eq l.schema.types fragments (take l.other-index l.earlier) l.field (places l.initial.told) (places l.told);
}
