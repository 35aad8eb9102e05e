use Rattle.std.proofs.Common.{◌≡◌, ℕ, ◌<◌, get_or, Bor}
use Rattle.graphql_values.specs.declared.input_value.InputValue.{InputValue}
use Rattle.graphql_values.specs.InputValues.{Pair}
use Rattle.graphql_values.proofs.input_value.equality.have_same_names.Given as goal

abbrev pub invariant-loop-index : goal.invariant-loop-index
invariant-loop-index g l = (k : ℕ) (x y : Bor (Pair (InputValue g.row.S.Denot))) → k < l.index → (get_or l.left k x).now.0.item ≡ (get_or l.right k y).now.0.item
