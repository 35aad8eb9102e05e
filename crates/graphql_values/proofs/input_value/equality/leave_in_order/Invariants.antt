use Rattle.std.proofs.Common.{◌≡◌, ◌+◌, take}
use Rattle.std.specs.List.{sum_by}
use Rattle.graphql_values.specs.Comparing.{left_count, lent}
use Rattle.graphql_values.specs.Counts.{value_count}
use Rattle.graphql_values.specs.SameValue.{SameFields}
use Rattle.graphql_values.proofs.ComparingLemmas.{FirstSame, SoFar}
use Rattle.graphql_values.proofs.input_value.equality.leave_in_order.Given as goal

abbrev pub invariant-loop-index : goal.invariant-loop-index
invariant-loop-index g l = record {
  count : left_count l.waiting ≡ left_count l.initial.waiting + sum_by (λ p. value_count p.now.1.item) (take l.index l.left);
  same : SoFar g.S.PartialEq.eq (FirstSame g.S.PartialEq.eq (λ p. p.now.1.item) l.left l.right l.index) (SameFields _ g.S.PartialEq.eq (lent l.left) (lent l.right)) l.initial.waiting l.waiting;
}
