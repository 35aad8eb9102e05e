use Rattle.std.proofs.Common.{◌+◌, ◌≤◌, List, map, take}
use Rattle.graphql_tree.specs.declared.document.Fragment.{Fragment}
use Rattle.graphql_merging.specs.Tables.{pieces_of, piece_field}
use Rattle.graphql_rules_merging.specs.Comparing.{with_each, stage_of, Compares}
use Rattle.graphql_rules_merging.proofs.fields.compare_with.Given as goal

-- the others so far
abbrev pub invariant-loop-right : goal.invariant-loop-right
invariant-loop-right g l = record {
  counted : l.progress.comparisons ≤ l.initial.progress.comparisons + l.right-index;
  compared : (fragments : List (Fragment g.row.S.Denot))
      → Compares g.S.PartialEq.eq l.schema.types (pieces_of fragments l.table) l.around (with_each (piece_field fragments l.left) (map (piece_field fragments) (take l.right-index l.others)))
      (stage_of l.initial.progress) (stage_of l.progress);
}
