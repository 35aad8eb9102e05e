use Rattle.std.proofs.Common.{ℕ, ◌+◌, ◌≤◌, false, List, map, take}
use Rattle.std.specs.List.{Contains}
use Rattle.graphql_bundles.specs.Conflicts.{places}
use Rattle.graphql_tree.specs.declared.document.Fragment.{Fragment}
use Rattle.graphql_merging.specs.Tables.{piece_field}
use Rattle.graphql_bundles.specs.Bundles.{of_object}
use Rattle.graphql_bundles.specs.Counted.{repeats_in_parts}
use Rattle.graphql_bundles.specs.Steps.{ArePartNamed, Compares, IsFoundOf}
use Rattle.graphql_bundles.proofs.heads.compare_parts.Given as goal

-- the parts so far
abbrev pub invariant-loop-name : goal.invariant-loop-name
invariant-loop-name g l = record {
  counted : l.comparisons ≤ l.initial.comparisons + repeats_in_parts l.group (take l.name-index l.names);
  told : (fragments : List (Fragment g.row.S.Denot))
      → Compares (IsFoundOf g.S.PartialEq.eq l.schema.types false (map (piece_field fragments) l.group))
      ((name : List ℕ) → Contains (take l.name-index l.names) name → ArePartNamed g.S.PartialEq.eq l.schema.types (map (piece_field fragments) l.group) (of_object name))
      (places l.initial.told) (places l.told);
}
