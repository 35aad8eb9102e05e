use Rattle.std.proofs.Common.{◌≡◌, true, take}
use Rattle.std.specs.List.{list_all}
use Rattle.graphql_literal_checks.specs.InputTypes.{may_hold_one}
use Rattle.graphql_literal_checks.proofs.wraps.size_but_one.Given as goal

abbrev pub invariant-loop-wrap : goal.invariant-loop-wrap
invariant-loop-wrap l = list_all may_hold_one (take l.wrap-index l.wraps) ≡ true
