use Rattle.std.proofs.Common.{◌+◌, ◌*◌, ◌≤◌, List, length, reverse}
use Rattle.graphql_bundles.specs.Conflicts.{places}
use Rattle.graphql_tree.specs.declared.document.Fragment.{Fragment}
use Rattle.graphql_bundles.specs.Direct.{DirectParts}
use Rattle.graphql_bundles.proofs.direct.direct_group.Given as goal

-- the classes so far
abbrev pub invariant-classes : goal.invariant-classes
invariant-classes g l = record {
  counted : l.comparisons + length l.rest * length l.rest ≤ l.initial.comparisons + length l.fields * length l.fields;
  told : (fragments : List (Fragment g.row.S.Denot))
      → DirectParts g.S.PartialEq.eq l.schema.types fragments (reverse l.fields) l.rest (places l.initial.told) (places l.told);
}

abbrev pub decreases-classes : goal.decreases-classes
decreases-classes g l = length l.rest
