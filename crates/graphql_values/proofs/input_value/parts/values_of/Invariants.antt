use Rattle.std.proofs.Common.{◌≡◌, take, map}
use Rattle.graphql_values.proofs.input_value.parts.values_of.Given as goal

abbrev pub invariant-loop-part : goal.invariant-loop-part
invariant-loop-part g l = map (λ part. part.now) l.parts.items ≡ map (λ x. x.item) (take l.part-index l.part-items)
