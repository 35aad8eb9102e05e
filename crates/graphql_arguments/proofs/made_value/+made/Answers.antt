use Rattle.std.proofs.Common.{Some, None, ap, sym, ◌∙◌}
use Rattle.graphql_written_out.specs.Filled.{filled_item, filled_pair}
use Rattle.graphql_written_out.specs.FinalVariables.{value_in}
use Rattle.graphql_arguments.proofs.Filtering.{found_more, missed_more}
use Rattle.graphql_arguments.proofs.Making.{mapped_more, list_made, object_made, item_made, pair_made}
use Rattle.graphql_arguments.proofs.made_value.+made.Goals as goal
use Rattle.graphql_arguments.proofs.made_value.+made.Goals.{made_pairs-in-Some+in_ok-field_with+in_ok-push, made_pairs-in_default}

pub made_value-returns-in_ok-made_items-in-List : goal.made_value-returns-in_ok-made_items-in-List
made_value-returns-in_ok-made_items-in-List g t c =
    list_made (value_in c.args.variables.now) c.args.literal.now c.in-List.items c.in_ok-made_items-in-List.field-0 c.in-List.is c.in_ok-made_items-in-List.ensures

pub made_value-returns-in_ok-made_pairs-in-Object : goal.made_value-returns-in_ok-made_pairs-in-Object
made_value-returns-in_ok-made_pairs-in-Object g t c =
    object_made (value_in c.args.variables.now) c.args.literal.now c.in-Object.pairs c.in_ok-made_pairs-in-Object.field-0 c.in-Object.is c.in_ok-made_pairs-in-Object.ensures

pub made_items-loop-part-preserved : goal.made_items-loop-part-preserved
made_items-loop-part-preserved g t c =
    let given = value_in c.args.variables.now in
    let part = c.part-item.result in
    let made = item_made given part c.in_ok-value.value c.unwrap_or-item.result c.in_ok-value.ensures c.unwrap_or-item.ensures in
    mapped_more (filled_item given) c.as_slice-part-items.result.now c.loop-part.part-index part _ c.loop-part.made _ c.loop-part.invariant c.loop-part-test.true c.part-item.is made c.in_ok-push.ensures.ok

pub made_pairs-loop-pair-preserved : goal.made_pairs-loop-pair-preserved
made_pairs-loop-pair-preserved g t c =
    let given = value_in c.args.variables.now in
    let pairs = c.as_slice-pair-items.result.now in
    let pair = c.pair-item.result in
    elim c.match-branch-2.branch [
      | made_pairs-in-Some+in_ok-field_with+in_ok-push w ↦
          let gives = pair_made given pair (Some w.in-Some.item) (sym w.in-Some.is ∙ c.in_ok-item.ensures) ∙ ap Some (sym w.in_ok-field_with.ensures) in
          found_more (filled_pair given) pairs c.loop-pair.pair-index pair c.loop-pair.made c.match-branch-2.made w.in_ok-field_with.field-0 c.loop-pair.invariant c.loop-pair-test.true c.pair-item.is gives (w.made-is ∙ w.in_ok-push.ensures.ok)
      | made_pairs-in_default w ↦
          let misses = pair_made given pair None (sym w.in_default.is ∙ c.in_ok-item.ensures) in
          missed_more (filled_pair given) pairs c.loop-pair.pair-index pair c.loop-pair.made c.match-branch-2.made c.loop-pair.invariant c.loop-pair-test.true c.pair-item.is misses w.made-is
    ]
