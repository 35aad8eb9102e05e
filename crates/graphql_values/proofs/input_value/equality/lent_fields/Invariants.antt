use Rattle.std.proofs.Common.{◌≡◌, take}
use Rattle.graphql_values.specs.Comparing.{lent}
use Rattle.graphql_values.proofs.input_value.equality.lent_fields.Given as goal

abbrev pub invariant-loop-pair : goal.invariant-loop-pair
invariant-loop-pair g l = lent l.all ≡ take l.pair-index l.pair-items
