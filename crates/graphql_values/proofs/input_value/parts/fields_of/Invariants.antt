use Rattle.std.proofs.Common.{◌≡◌, take, map}
use Rattle.graphql_values.specs.Parts.{by_name}
use Rattle.graphql_values.proofs.input_value.parts.fields_of.Given as goal

abbrev pub invariant-loop-pair : goal.invariant-loop-pair
invariant-loop-pair g l = map (λ field. (field.0, field.1.now)) l.fields.entries ≡ by_name (take l.pair-index l.pair-items)
