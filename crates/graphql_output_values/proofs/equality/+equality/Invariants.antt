use Rattle.std.proofs.Common.{◌≡◌, true, take}
use Rattle.std.specs.List.{list_all}
use Rattle.graphql_output_values.specs.Equality.{agree_under, equal, items_equal}
use Rattle.graphql_output_values.specs.Lookups.{IsLookupOf}
use Rattle.graphql_output_values.proofs.equality.+equality.Given as goal

abbrev pub invariant-same_in_order-loop-place : goal.invariant-same_in_order-loop-place
invariant-same_in_order-loop-place g l =
    list_all (λ f. agree_under (equal g.S.PartialEq.eq) l.mine.fields l.theirs.fields f.0) (take l.place l.mine.fields) ≡ true

abbrev pub invariant-same_by_keys-loop-place : goal.invariant-same_by_keys-loop-place
invariant-same_by_keys-loop-place g l = record {
  finds : IsLookupOf l.others l.theirs.fields;
  so_far : list_all (λ f. agree_under (equal g.S.PartialEq.eq) l.mine.fields l.theirs.fields f.0) (take l.place l.mine.fields) ≡ true;
}

abbrev pub invariant-same_items-loop-place : goal.invariant-same_items-loop-place
invariant-same_items-loop-place g l = items_equal (equal g.S.PartialEq.eq) (take l.place l.mine) (take l.place l.theirs) ≡ true
