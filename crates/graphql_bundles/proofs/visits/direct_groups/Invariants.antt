use Rattle.std.proofs.Common.{◌+◌, ◌*◌, ◌≤◌, List, take}
use Rattle.graphql_bundles.specs.Conflicts.{places}
use Rattle.graphql_tree.specs.declared.document.Fragment.{Fragment}
use Rattle.graphql_bundles.specs.Counted.{fields_of_groups}
use Rattle.graphql_bundles.proofs.VisitLemmas.{GroupsTold}
use Rattle.graphql_bundles.proofs.visits.direct_groups.Given as goal

-- the groups so far
abbrev pub invariant-loop-group : goal.invariant-loop-group
invariant-loop-group g l = record {
  counted : l.comparisons ≤ l.initial.comparisons + fields_of_groups (take l.group-index l.groups) * fields_of_groups (take l.group-index l.groups);
  told : (fragments : List (Fragment g.row.S.Denot))
      → GroupsTold g.S.PartialEq.eq l.schema.types fragments l.fields (take l.group-index l.groups) (places l.initial.told) (places l.told);
}
