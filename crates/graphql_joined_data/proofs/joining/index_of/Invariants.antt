use Rattle.std.proofs.Common.{◌≤◌, drop, length}
use Rattle.graphql_output_values.specs.Lookups.{IsIndex}
use Rattle.graphql_joined_data.proofs.joining.index_of.Given as goal

-- the index has what the fields from a place on have
abbrev pub invariant-fields : goal.invariant-fields
invariant-fields g l = record {
  within : l.left ≤ length l.fields;
  indexed : IsIndex l.values (drop l.left l.fields);
}

abbrev pub decreases-fields : goal.decreases-fields
decreases-fields g l = l.left
