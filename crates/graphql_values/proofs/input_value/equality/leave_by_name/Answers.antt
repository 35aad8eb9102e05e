use Rattle.std.proofs.Common.{◌+◌, ◌≤◌, sym, arith}
use Rattle.std.specs.List.{sum_by}
use Rattle.std.proofs.lemmas.List.Sorted.{sum_by-IsPermutation}
use Rattle.graphql_values.specs.Comparing.{LeavesSame, left_count, lent}
use Rattle.graphql_values.specs.Counts.{value_count}
use Rattle.graphql_values.specs.SameValue.{SameFields}
use Rattle.graphql_values.proofs.ByNameLemmas.{same_as_put, same_names}
use Rattle.graphql_values.proofs.ComparingLemmas.{fails, leaves_as, ok_maps}
use Rattle.graphql_values.proofs.SameValueLemmas.{refuted}
use Rattle.graphql_values.proofs.input_value.equality.leave_by_name.Goals as goal

pub returns-then-have_same_names-clause-leaves : goal.returns-then-have_same_names-clause-leaves
returns-then-have_same_names-clause-leaves g c =
    let eq = g.S.PartialEq.eq in
    let ps = lent c.args.left in
    let qs = lent c.args.right in
    let us = lent c.in_ok-left.left in
    let vs = lent c.in_ok-right.right in
    let left = c.in_ok-left.ensures.1 in
    let right = c.in_ok-right.ensures.1 in
    let new = c.leave_in_order.new.waiting in
    ok_maps (LeavesSame eq (SameFields _ eq us vs) c.args.waiting.now new) (LeavesSame eq (SameFields _ eq ps qs) c.args.waiting.now new) c.leave_in_order.result
    (λ stands. leaves_as eq (SameFields _ eq us vs) (SameFields _ eq ps qs) c.args.waiting.now new stands (same_as_put eq ps qs us vs left right) (same_as_put eq us vs ps qs (λ name. sym (left name)) (λ name. sym (right name)))) c.leave_in_order.ensures.leaves

pub returns-then-have_same_names-clause-count : goal.returns-then-have_same_names-clause-count
returns-then-have_same_names-clause-count g c =
    let new = c.leave_in_order.new.waiting in
    ok_maps _ (λ _. left_count new ≤ left_count c.args.waiting.now + sum_by (λ p. value_count p.1.item) (lent c.args.left)) c.leave_in_order.result
    (λ stands within. omega (arith, within, sum_by-IsPermutation (λ p. value_count p.1.item) (lent c.args.left) (lent c.in_ok-left.left) c.in_ok-left.ensures.0)) c.leave_in_order.ensures.count

pub returns-clause-leaves : goal.returns-clause-leaves
returns-clause-leaves g c =
    let eq = g.S.PartialEq.eq in
    let ps = lent c.args.left in
    let qs = lent c.args.right in
    let us = lent c.in_ok-left.left in
    let vs = lent c.in_ok-right.right in
    fails eq (SameFields _ eq ps qs) c.args.waiting.now c.args.waiting.now
    (λ same.
    let put = same_as_put eq us vs ps qs (λ name. sym (c.in_ok-left.ensures.1 name)) (λ name. sym (c.in_ok-right.ensures.1 name)) same in
    refuted c.have_same_names.result c.if-have_same_names.false (c.have_same_names.ensures.1 (same_names eq us vs c.in_ok-left.ensures.2 c.in_ok-right.ensures.2 put)))
