use Rattle.std.proofs.Common.{◌≡◌, ◌+◌, ◌*◌, take}
use Rattle.std.specs.List.{All, sum_by}
use Rattle.std.specs.Map.{keys_of, values_of}
use Rattle.graphql_output_values.specs.Counts.{value_count}
use Rattle.graphql_output_values.specs.DistinctKeys.{HasDistinctKeysThroughout}
use Rattle.graphql_joins.specs.Joins.{ItemsJoin}
use Rattle.graphql_joined_data.specs.Joining.{AreOneWhereEqual}
use Rattle.graphql_output_values.proofs.CountEquations.{field_count}
use Rattle.graphql_joined_data.proofs.JoinedFields.{EachJoined}
use Rattle.graphql_joined_data.proofs.joining.+joins.Given as goal

abbrev pub invariant-joined_items-loop-place : goal.invariant-joined_items-loop-place
invariant-joined_items-loop-place g l = record {
  joined : AreOneWhereEqual g.S.PartialEq.eq → ItemsJoin (take l.place l.first) (take l.place l.second) l.items;
  distinct : All HasDistinctKeysThroughout l.items;
}

abbrev pub invariant-joined_objects-loop-field : goal.invariant-joined_objects-loop-field
invariant-joined_objects-loop-field g l = record {
  joined : AreOneWhereEqual g.S.PartialEq.eq → EachJoined l.second.fields (take l.field-index l.field-items) l.fields;
  keys : keys_of l.fields ≡ keys_of (take l.field-index l.field-items);
  distinct : All HasDistinctKeysThroughout (values_of l.fields);
}

abbrev pub decreases-join_data : goal.decreases-join_data
decreases-join_data g l = 4 * value_count l.first.now

abbrev pub decreases-joined_items : goal.decreases-joined_items
decreases-joined_items g l = 4 * sum_by value_count l.first.now + 1

abbrev pub decreases-joined_objects : goal.decreases-joined_objects
decreases-joined_objects g l = 4 * sum_by field_count l.first.now.fields + 3

abbrev pub decreases-joined_field : goal.decreases-joined_field
decreases-joined_field g l = 4 * value_count l.first.now + 2

abbrev pub decreases-joined_under_key : goal.decreases-joined_under_key
decreases-joined_under_key g l = 4 * value_count l.first.now + 1
