use Rattle.std.proofs.Common.{◌≡◌, map, take}
use Rattle.graphql_values.specs.InputValues.{unplaced}
use Rattle.graphql_values.proofs.conversions.to_input_value.add_inputs.Given as goal

abbrev pub invariant-items : goal.invariant-items
invariant-items g l = l.values ≡ map (λ x. unplaced (g.T.ToInputValue.input x)) (take l.item-index l.items)
