use Rattle.std.proofs.Common.{◌≡◌, ◌+◌, ◌<◌, ◌≤◌, List, Some, map, slice_get, take}
use Rattle.graphql_bundles.specs.Conflicts.{places}
use Rattle.graphql_tree.specs.declared.document.Fragment.{Fragment}
use Rattle.graphql_merging.specs.Merging.{Agree}
use Rattle.graphql_merging.specs.Selected.{member_of}
use Rattle.graphql_merging.specs.Told.{AddsErrors}
use Rattle.graphql_merging.specs.declared.table.WrittenField.{WrittenField}
use Rattle.graphql_bundles.proofs.telling.compare_with.Given as goal

-- the fields so far; that at the place itself is not compared
abbrev pub invariant-loop-other : goal.invariant-loop-other
invariant-loop-other g l = record {
  counted : l.comparisons ≤ l.initial.comparisons + l.other;
  past : l.place < l.other → l.comparisons + 1 ≤ l.initial.comparisons + l.other;
  told : (fragments : List (Fragment g.row.S.Denot)) (head : WrittenField g.row.S.Denot g.row.C.Denot) → slice_get l.group l.place ≡ Some head
      → AddsErrors (Agree g.S.PartialEq.eq l.schema.types l.around) (map (λ f. (member_of fragments head.selected, member_of fragments f.selected)) (take l.other l.group))
      (places l.initial.told) (places l.told);
}
