use Rattle.std.proofs.Common.{◌↔◌}
use Rattle.graphql_values.specs.Comparing.{AllSame, left_count}
use Rattle.graphql_values.specs.SameValue.{SameValue}
use Rattle.graphql_values.proofs.input_value.InputValue.unlocated_eq.Given as goal

abbrev pub invariant-values : goal.invariant-values
invariant-values g l = AllSame g.S.PartialEq.eq l.waiting ↔ SameValue _ g.S.PartialEq.eq l.self l.other

abbrev pub decreases-values : goal.decreases-values
decreases-values g l = left_count l.waiting
