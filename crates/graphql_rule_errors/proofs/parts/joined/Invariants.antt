use Rattle.std.proofs.Common.{◌≡◌, take}
use Rattle.std.specs.List.{flat_map}
use Rattle.graphql_rule_errors.proofs.parts.joined.Given as goal

-- the parts so far
abbrev pub invariant-texts : goal.invariant-texts
invariant-texts l = l.text ≡ flat_map (λ part. part.now) (take l.part-index l.parts)
