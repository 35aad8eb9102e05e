use Rattle.std.proofs.Common.{◌≡◌, ◌<◌, length, slice_index_or, refl, ap, sym, ◌∙◌, arith}
use Rattle.std.proofs.lemmas.List.Sums.{sum_by-take-le}
use Rattle.graphql_values.specs.Comparing.{lent}
use Rattle.graphql_values.specs.Counts.{value_count}
use Rattle.graphql_values.specs.SameValue.{SameFields}
use Rattle.graphql_values.proofs.ByNameLemmas.{lend, lent_at, lent_is, lent_length}
use Rattle.graphql_values.proofs.ComparingLemmas.{FirstSame, all_wait, count_more, part_more}
use Rattle.graphql_values.proofs.CountEquations.{sum_by-map}
use Rattle.graphql_values.proofs.OrderLemmas.{fields_from, fields_here, names_length}
use Rattle.graphql_values.proofs.SameValueLemmas.{same_at}
use Rattle.graphql_values.proofs.input_value.equality.leave_in_order.Goals as goal

pub loop-index-preserved : goal.loop-index-preserved
loop-index-preserved g c =
    let eq = g.S.PartialEq.eq in
    let left = c.args.left.now in
    let right = c.args.right.now in
    let mine = c.as_slice-pair-items.result.now in
    let theirs = c.as_slice-others.result.now in
    let at = c.loop-index.index in
    let x = c.pair-item.result in
    let y = c.index-others-index.result in
    let pushed = c.in_ok-push.ensures.ok in
    let long : length mine ≡ length left = ap length c.as_slice-pair-items.ensures in
    let within : at < length left = omega (arith, long) in
    let inside : at < length (lent mine) = omega (arith, within, long, lent_length mine) in
    let beside : at < length right = omega (arith, within, names_length (lent left) (lent right) c.requires, lent_length left, lent_length right) in
    let is_x = c.pair-item.is ∙ ap (λ zs. slice_index_or zs at x) c.as_slice-pair-items.ensures in
    let is_y = c.index-others-index.is ∙ ap (λ zs. slice_index_or zs at y) c.as_slice-others.ensures in
    record {
      count = count_more (λ z. z.now.1.item) left c.args.waiting.now c.loop-index.waiting c.push.new.self _ at x pushed refl within is_x c.loop-index.invariant.count;
      same =
          part_more eq (λ z. z.now.1.item) left right (SameFields _ eq (lent left) (lent right)) c.args.waiting.now c.loop-index.waiting c.push.new.self _ at x y pushed refl (ap (λ z. z.now.1.item) (sym c.index-others-index.is)) within beside is_x is_y
          (fields_here eq (lent mine) (lent theirs) (lent left) (lent right) at x.now y.now (ap lent c.as_slice-pair-items.ensures) (ap lent c.as_slice-others.ensures) inside (lent_is mine at x c.pair-item.is) (lent_is theirs at y c.index-others-index.is) c.requires) c.loop-index.invariant.same;
    }

pub returns-clause-leaves : goal.returns-clause-leaves
returns-clause-leaves g c =
    let eq = g.S.PartialEq.eq in
    let left = c.args.left.now in
    let right = c.args.right.now in
    let long : length c.as_slice-pair-items.result.now ≡ length left = ap length c.as_slice-pair-items.ensures in
    all_wait eq (FirstSame eq (λ z. z.now.1.item) left right c.loop-index.index) (SameFields _ eq (lent left) (lent right)) c.args.waiting.now c.loop-index.waiting
    (λ first. fields_from eq (lent left) (lent right) c.requires
    (λ k x y within. same_at eq _ _ _ _ (ap (λ p. p.1.item) (lent_at left k x)) (ap (λ p. p.1.item) (lent_at right k y)) (first k (omega (arith, long, within, lent_length left)) (lend x) (lend y)))) c.loop-index.invariant.same

pub returns-clause-count : goal.returns-clause-count
returns-clause-count g c =
    let left = c.args.left.now in
    omega (arith, c.loop-index.invariant.count, sum_by-take-le (λ p. value_count p.now.1.item) left c.loop-index.index, sum_by-map (λ p. value_count p.1.item) (λ p. p.now) left)
