use Rattle.std.proofs.Common.{◌≡◌, map}
use Rattle.graphql_values.specs.InputValues.{unplaced}
use Rattle.graphql_values.proofs.input_value.pushed.unlocated_items.Given as goal

abbrev pub invariant-loop-item : goal.invariant-loop-item
invariant-loop-item g l = l.items ≡ map unplaced l.yielded
