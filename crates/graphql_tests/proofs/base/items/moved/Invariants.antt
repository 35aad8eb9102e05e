use Rattle.std.proofs.Common.{◌≡◌}
use Rattle.graphql_tests.proofs.base.items.moved.Given as goal

abbrev pub invariant-loop-item : goal.invariant-loop-item
invariant-loop-item l = l.moved ≡ l.yielded
