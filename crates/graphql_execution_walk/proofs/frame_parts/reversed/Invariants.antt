use Rattle.std.proofs.Common.{◌≡◌, ◌++◌, reverse, length}
use Rattle.graphql_execution_walk.proofs.frame_parts.reversed.Given as goal

abbrev pub invariant-loop-item : goal.invariant-loop-item
invariant-loop-item g l = l.left ++ reverse l.turned ≡ l.fn.items

abbrev pub decreases-loop-item : goal.decreases-loop-item
decreases-loop-item g l = length l.left
