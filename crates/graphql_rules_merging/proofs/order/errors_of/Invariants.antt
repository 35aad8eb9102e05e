use Rattle.std.proofs.Common.{◌≡◌, ◌++◌, map}
use Rattle.std.specs.Vec.Iter.{into_iter_items}
use Rattle.graphql_bundles.specs.Conflicts.{error_of}
use Rattle.graphql_rules_merging.proofs.order.errors_of.Given as goal

-- the errors so far, and those of the conflicts that are left
abbrev pub invariant-loop-conflict : goal.invariant-loop-conflict
invariant-loop-conflict l = map error_of l.fn.found.items ≡ l.errors ++ map error_of (into_iter_items l.conflict-iterator)
