use Rattle.std.proofs.Common.{◌+◌, ◌-◌, ◌*◌, ◌≤◌, length, List, map, drop}
use Rattle.graphql_tree.specs.declared.document.Fragment.{Fragment}
use Rattle.graphql_merging.specs.Tables.{pieces_of, piece_field}
use Rattle.graphql_rules_merging.specs.Comparing.{later, Stage, stage_of, Compares}
use Rattle.graphql_rules_merging.proofs.fields.compare_within.Given as goal

-- once the rest is compared, all is
abbrev pub invariant-loop-index : goal.invariant-loop-index
invariant-loop-index g l = record {
  counted : 2 * l.progress.comparisons + (length l.fields - l.index) * (length l.fields - l.index) ≤ 2 * l.initial.progress.comparisons + length l.fields * length l.fields;
  compared : (fragments : List (Fragment g.row.S.Denot)) (new : Stage)
      → Compares g.S.PartialEq.eq l.schema.types (pieces_of fragments l.table) l.around (later (map (piece_field fragments) (drop l.index l.fields))) (stage_of l.progress) new
      → Compares g.S.PartialEq.eq l.schema.types (pieces_of fragments l.table) l.around (later (map (piece_field fragments) l.fields)) (stage_of l.initial.progress) new;
}
