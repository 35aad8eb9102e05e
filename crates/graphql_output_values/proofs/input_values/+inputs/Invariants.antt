use Rattle.std.proofs.Common.{◌≡◌, map, take}
use Rattle.graphql_output_values.specs.InputOfOutput.{input_of}
use Rattle.graphql_values.specs.InputValues.{unplaced, unplaced_pair}
use Rattle.graphql_output_values.proofs.input_values.+inputs.Given as goal

abbrev pub invariant-inputs_of-items : goal.invariant-inputs_of-items
invariant-inputs_of-items g l = l.inputs ≡ map (λ x. unplaced (input_of x)) (take l.item-index l.items)

abbrev pub invariant-fields_of-fields : goal.invariant-fields_of-fields
invariant-fields_of-fields g l = l.pairs ≡ map (λ p. unplaced_pair (p.0, input_of p.1)) (take l.field-index l.field-items)
