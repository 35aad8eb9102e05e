use Rattle.std.proofs.Common.{◌+◌, ◌*◌, ◌≤◌, List, length}
use Rattle.graphql_merging.specs.FieldNodes.{fields_written}
use Rattle.graphql_tree.specs.declared.document.Fragment.{Fragment}
use Rattle.graphql_merging.specs.Tables.{pieces_of}
use Rattle.graphql_rules_merging.specs.Agenda.{listed_of}
use Rattle.graphql_rules_merging.specs.Comparing.{stage_of}
use Rattle.graphql_rules_merging.proofs.Underway.{IsUnderway}
use Rattle.graphql_rules_merging.proofs.Measure.{ahead}
use Rattle.graphql_rules_merging.proofs.Spare.{AreOrdered, spare}
use Rattle.graphql_rules_merging.proofs.finish.merge_errors.Given as goal

-- the pairs that were given out are compared
abbrev pub invariant-pairs : goal.invariant-pairs
invariant-pairs g l = record {
  underway : (fragments : List (Fragment g.row.S.Denot))
      → IsUnderway g.S.PartialEq.eq l.schema.types (pieces_of fragments l.table) l.definitions (stage_of l.progress);
  ordered : AreOrdered (listed_of l.progress.agenda);
  counted : 2 * l.progress.comparisons + spare l.table (listed_of l.progress.agenda)
      ≤ 2 * l.comparisons + 2 * (fields_written l.table.sets * fields_written l.table.sets);
}

abbrev pub decreases-pairs : goal.decreases-pairs
decreases-pairs g l = ahead (listed_of l.progress.agenda) (length l.table.sets)
