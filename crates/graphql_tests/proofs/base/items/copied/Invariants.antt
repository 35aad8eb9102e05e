use Rattle.std.proofs.Common.{◌≡◌, map}
use Rattle.graphql_tests.proofs.base.items.copied.Given as goal

abbrev pub invariant-loop-item : goal.invariant-loop-item
invariant-loop-item l = l.copy ≡ map (λ x. x.now) l.yielded
