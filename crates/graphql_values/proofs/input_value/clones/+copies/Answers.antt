use Rattle.std.proofs.Common.{ap, ◌∙◌}
use Rattle.graphql_values.proofs.Growing.{copied_more}
use Rattle.graphql_values.proofs.input_value.clones.+copies.Goals as goal

pub copy_of_pairs-loop-pair-preserved : goal.copy_of_pairs-loop-pair-preserved
copy_of_pairs-loop-pair-preserved g t c =
    let pair = c.pair-item.result in
    let same = ap (λ item. (pair.0, record { item = item; span = pair.1.span })) c.in_ok-item.ensures in
    copied_more c.as_slice-pair-items.result.now c.loop-pair.copies _ c.loop-pair.pair-index pair _ c.loop-pair.invariant c.loop-pair-test.true c.pair-item.is same c.in_ok-push_field.ensures

pub copy_of_items-loop-part-preserved : goal.copy_of_items-loop-part-preserved
copy_of_items-loop-part-preserved g t c =
    let part = c.part-item.result in
    let same = ap (λ item. record { item = item; span = part.span }) c.in_ok-item.ensures in
    copied_more c.as_slice-part-items.result.now c.loop-part.copies _ c.loop-part.part-index part _ c.loop-part.invariant c.loop-part-test.true c.part-item.is same c.in_ok-push_at.ensures
