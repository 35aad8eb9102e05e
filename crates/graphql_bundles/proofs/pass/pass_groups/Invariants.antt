use Rattle.std.proofs.Common.{◌+◌, ◌*◌, ◌≤◌, List, take}
use Rattle.graphql_tree.specs.declared.document.Fragment.{Fragment}
use Rattle.graphql_merging.specs.Tables.{pieces_of}
use Rattle.graphql_bundles.specs.Counted.{repeats_in_groups}
use Rattle.graphql_bundles.specs.Going.{stage_of}
use Rattle.graphql_bundles.specs.Steps.{FoundInGroups, Goes, GroupsLeadTo, GroupsPassed}
use Rattle.graphql_bundles.proofs.pass.pass_groups.Given as goal

-- the groups so far
abbrev pub invariant-loop-group : goal.invariant-loop-group
invariant-loop-group g l = record {
  counted : l.comparisons ≤ l.initial.comparisons + 2 * repeats_in_groups (take l.group-index l.groups);
  passed : (fragments : List (Fragment g.row.S.Denot))
      → Goes (FoundInGroups g.S.PartialEq.eq l.schema.types fragments l.around l.groups) (GroupsLeadTo (pieces_of fragments l.table) fragments l.around l.groups)
      (GroupsPassed (pieces_of fragments l.table) g.S.PartialEq.eq l.schema.types fragments l.around (take l.group-index l.groups)) (stage_of l.initial.progress) (stage_of l.progress);
}
