use Rattle.std.proofs.Common.{◌≡◌, take}
use Rattle.graphql_tree.proofs.selection.clones.+copies.Given as goal

abbrev pub invariant-copy_of_set-loop-selection : goal.invariant-copy_of_set-loop-selection
invariant-copy_of_set-loop-selection g l = l.copies ≡ take l.selection-index l.set
