use Rattle.std.proofs.Common.{◌≡◌, ◌+◌, ◌*◌, List, ◌∷◌, take, length, ◌≤◌}
use Rattle.graphql_bundles.specs.Conflicts.{places}
use Rattle.graphql_tree.specs.declared.document.Fragment.{Fragment}
use Rattle.graphql_bundles.proofs.DirectLemmas.{Sorted}
use Rattle.graphql_bundles.proofs.direct.sort_all.Given as goal

-- those that are sorted out so far
abbrev pub invariant-loop-field : goal.invariant-loop-field
invariant-loop-field g l = record {
  counted : l.comparisons ≤ l.initial.comparisons + (l.field-index + length l.split.alike * length l.split.others);
  whole : length l.split.alike + length l.split.others ≡ l.field-index + 1;
  sorted : (fragments : List (Fragment g.row.S.Denot))
      → Sorted g.S.PartialEq.eq l.schema.types fragments l.head (l.head ∷ take l.field-index l.fields) l.split (places l.initial.told) (places l.told);
  few : length l.split.others ≤ l.field-index;
}
