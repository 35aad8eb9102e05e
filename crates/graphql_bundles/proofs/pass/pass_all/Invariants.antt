use Rattle.std.proofs.Common.{◌≤◌, max, List}
use Rattle.std.specs.List.{Contains}
use Rattle.graphql_text.specs.declared.position.SourcePosition.{SourcePosition}
use Rattle.graphql_tree.specs.declared.document.Fragment.{Fragment}
use Rattle.graphql_merging.specs.Tables.{pieces_of}
use Rattle.graphql_bundles.specs.Bundles.{IsFoundAmong}
use Rattle.graphql_bundles.specs.Going.{IsGoing, stage_of}
use Rattle.graphql_bundles.specs.Steps.{KeepsTold}
use Rattle.graphql_bundles.proofs.pass.pass_all.Given as goal

-- the bundles so far
abbrev pub invariant-loop-number : goal.invariant-loop-number
invariant-loop-number g l = record {
  counted : l.comparisons ≤ max l.fn.comparisons l.most;
  kept : KeepsTold (stage_of l.fn.progress) (stage_of l.progress);
  going : (fragments : List (Fragment g.row.S.Denot))
      → ((e : List SourcePosition) → Contains (stage_of l.fn.progress).told e → IsFoundAmong (pieces_of fragments l.table) l.definitions g.S.PartialEq.eq l.schema.types e)
      → IsGoing (pieces_of fragments l.table) g.S.PartialEq.eq l.schema.types l.definitions l.number (stage_of l.progress);
}
