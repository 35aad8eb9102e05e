use Rattle.std.proofs.Common.{◌≡◌, ◌<◌, length, slice_index_or, refl, ap, sym, ◌∙◌, arith}
use Rattle.graphql_values.specs.SameValue.{SameItems}
use Rattle.graphql_values.proofs.ComparingLemmas.{FirstSame, all_wait, count_more, fails, part_more}
use Rattle.graphql_values.proofs.SameValueLemmas.{items_from, items_here, items_length}
use Rattle.graphql_values.proofs.input_value.equality.leave_items.Goals as goal

pub returns-then-len-clause-leaves : goal.returns-then-len-clause-leaves
returns-then-len-clause-leaves g c =
    fails g.S.PartialEq.eq (SameItems _ g.S.PartialEq.eq c.args.left.now c.args.right.now) c.args.waiting.now c.args.waiting.now
    (λ same. let e : length c.args.left.now ≡ length c.args.right.now = items_length g.S.PartialEq.eq c.args.left.now c.args.right.now same in omega arith)

pub loop-index-preserved : goal.loop-index-preserved
loop-index-preserved g c =
    let eq = g.S.PartialEq.eq in
    let left = c.args.left.now in
    let right = c.args.right.now in
    let at = c.loop-index.index in
    let x = c.part-item.result in
    let y = c.index-others-index.result in
    let pushed = c.in_ok-push.ensures.ok in
    let long : length c.as_slice-part-items.result.now ≡ length left = ap length c.as_slice-part-items.ensures in
    let within : at < length left = omega (arith, long) in
    let beside : at < length right = omega (arith, long) in
    let is_x = c.part-item.is ∙ ap (λ zs. slice_index_or zs at x) c.as_slice-part-items.ensures in
    let is_y = c.index-others-index.is ∙ ap (λ zs. slice_index_or zs at y) c.as_slice-others.ensures in
    record {
      count = count_more (λ z. z.item) left c.args.waiting.now c.loop-index.waiting c.push.new.self _ at x pushed refl within is_x c.loop-index.invariant.count;
      same =
          part_more eq (λ z. z.item) left right (SameItems _ eq left right) c.args.waiting.now c.loop-index.waiting c.push.new.self _ at x y pushed refl (ap (λ z. z.item) (sym c.index-others-index.is)) within beside is_x is_y
          (items_here eq _ _ left right at x y c.as_slice-part-items.ensures c.as_slice-others.ensures c.loop-index-test.true c.part-item.is c.index-others-index.is) c.loop-index.invariant.same;
    }

pub returns-clause-leaves : goal.returns-clause-leaves
returns-clause-leaves g c =
    let eq = g.S.PartialEq.eq in
    let left = c.args.left.now in
    let right = c.args.right.now in
    let long : length c.as_slice-part-items.result.now ≡ length left = ap length c.as_slice-part-items.ensures in
    let e : length left ≡ length right = omega (arith, long) in
    all_wait eq (FirstSame eq (λ z. z.item) left right c.loop-index.index) (SameItems _ eq left right) c.args.waiting.now c.loop-index.waiting
    (λ first. items_from eq left right e (λ k x y within. first k (omega (arith, long, within)) x y)) c.loop-index.invariant.same
