use Rattle.std.proofs.Common.{◌≡◌, take, map}
use Rattle.graphql_tests.proofs.base.nested_items.+copy_of.Given as goal

abbrev pub invariant-loop-part : goal.invariant-loop-part
invariant-loop-part l = l.copies ≡ take l.part-index l.part-items

abbrev pub invariant-loop-pair : goal.invariant-loop-pair
invariant-loop-pair l = l.copies ≡ map (λ x. x.now) l.yielded
