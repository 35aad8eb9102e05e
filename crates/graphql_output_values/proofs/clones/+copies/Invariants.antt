use Rattle.std.proofs.Common.{◌≡◌, take}
use Rattle.graphql_output_values.proofs.clones.+copies.Given as goal

abbrev pub invariant-copy_of_items-loop-item : goal.invariant-copy_of_items-loop-item
invariant-copy_of_items-loop-item g l = l.copies ≡ take l.item-index l.items

abbrev pub invariant-copy_of_fields-loop-field : goal.invariant-copy_of_fields-loop-field
invariant-copy_of_fields-loop-field g l = l.copies ≡ take l.field-index l.field-items
