use Rattle.std.proofs.Common.{◌+◌, ◌*◌, ◌≤◌, length, List, map, take}
use Rattle.graphql_tree.specs.declared.document.Fragment.{Fragment}
use Rattle.graphql_merging.specs.Tables.{pieces_of, piece_field}
use Rattle.graphql_rules_merging.specs.Comparing.{between, stage_of, Compares}
use Rattle.graphql_rules_merging.proofs.fields.compare_between.Given as goal

-- the fields of the one set so far
abbrev pub invariant-loop-left : goal.invariant-loop-left
invariant-loop-left g l = record {
  counted : l.progress.comparisons ≤ l.initial.progress.comparisons + l.left-index * length l.rights;
  compared : (fragments : List (Fragment g.row.S.Denot))
      → Compares g.S.PartialEq.eq l.schema.types (pieces_of fragments l.table) l.around
      (between (map (piece_field fragments) (take l.left-index l.lefts)) (map (piece_field fragments) l.rights)) (stage_of l.initial.progress) (stage_of l.progress);
}
