use Rattle.std.proofs.Common.{◌≡◌, ◌+◌, ◌*◌, ◌≤◌, length}
use Rattle.std.specs.Cmp.Lexicographic.{pointwise}
use Rattle.std.specs.List.{sum_by}
use Rattle.graphql_values.specs.Counts.{value_count}
use Rattle.graphql_values.proofs.CountEquations.{field_count, item_count}
use Rattle.graphql_look_ahead.specs.Equality.{equal, same_field, same_item}
use Rattle.graphql_look_ahead.specs.Values.{fields_left, items_ahead, value_shown}
use Rattle.graphql_look_ahead.proofs.equality.+equality.Given as goal

abbrev pub decreases-are_same_value : goal.decreases-are_same_value
decreases-are_same_value g l = 2 * value_count (value_shown l.mine)

abbrev pub decreases-are_same_items : goal.decreases-are_same_items
decreases-are_same_items g l = 2 * sum_by item_count (items_ahead l.mine) + 1

abbrev pub decreases-are_same_fields : goal.decreases-are_same_fields
decreases-are_same_fields g l = 2 * sum_by field_count (fields_left l.mine) + 1

abbrev pub invariant-are_same_items-items : goal.invariant-are_same_items-items
invariant-are_same_items-items g l = record {
  so_far :
      pointwise (same_item (equal g.S.PartialEq.eq)) (items_ahead l.mine) (items_ahead l.theirs)
      ≡ pointwise (same_item (equal g.S.PartialEq.eq)) (items_ahead l.fn.mine) (items_ahead l.fn.theirs);
  fewer : sum_by item_count (items_ahead l.mine) ≤ sum_by item_count (items_ahead l.fn.mine);
}

abbrev pub decreases-are_same_items-items : goal.decreases-are_same_items-items
decreases-are_same_items-items g l = length (items_ahead l.mine)

abbrev pub invariant-are_same_fields-fields : goal.invariant-are_same_fields-fields
invariant-are_same_fields-fields g l = record {
  so_far :
      pointwise (same_field (equal g.S.PartialEq.eq)) (fields_left l.mine) (fields_left l.theirs)
      ≡ pointwise (same_field (equal g.S.PartialEq.eq)) (fields_left l.fn.mine) (fields_left l.fn.theirs);
  fewer : sum_by field_count (fields_left l.mine) ≤ sum_by field_count (fields_left l.fn.mine);
}

abbrev pub decreases-are_same_fields-fields : goal.decreases-are_same_fields-fields
decreases-are_same_fields-fields g l = length (fields_left l.mine)
