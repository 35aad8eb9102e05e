use Rattle.std.proofs.Common.{◌≡◌, map, take}
use Rattle.graphql_bundles.proofs.parts.own_numbers.Given as goal

abbrev pub invariant-loop-field : goal.invariant-loop-field
invariant-loop-field g l = l.numbers ≡ map (λ f. f.own) (take l.field-index l.fields)
