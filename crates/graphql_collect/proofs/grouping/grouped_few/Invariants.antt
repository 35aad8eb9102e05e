use Rattle.std.proofs.Common.{◌≡◌, List, map, take}
use Rattle.std.specs.List.{IsDistinct}
use Rattle.std.specs.Str.{bytes_eq}
use Rattle.graphql_tree.specs.declared.document.Fragment.{Fragment}
use Rattle.graphql_written_out.specs.Groups.{groups}
use Rattle.graphql_collect.specs.Grouped.{all_found, group_found}
use Rattle.graphql_collect.proofs.grouping.grouped_few.Given as goal

abbrev pub invariant-loop-occurrence : goal.invariant-loop-occurrence
invariant-loop-occurrence g l = record {
  distinct : IsDistinct bytes_eq (map (λ h. h.0) l.groups);
  grouped : (fragments : List (Fragment g.row.S.Denot)) → map (group_found fragments) l.groups ≡ groups (all_found fragments (take l.occurrence-index l.found));
}
