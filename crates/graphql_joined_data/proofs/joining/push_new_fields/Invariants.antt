use Rattle.std.proofs.Common.{◌≡◌, ◌++◌, take}
use Rattle.graphql_joined_data.specs.Joining.{new_fields}
use Rattle.graphql_joined_data.proofs.joining.push_new_fields.Given as goal

abbrev pub invariant-loop-field : goal.invariant-loop-field
invariant-loop-field g l = l.fields ≡ l.initial.fields ++ new_fields l.first.fields (take l.field-index l.field-items)
