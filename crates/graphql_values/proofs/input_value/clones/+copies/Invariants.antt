use Rattle.std.proofs.Common.{◌≡◌, take}
use Rattle.graphql_values.proofs.input_value.clones.+copies.Given as goal

abbrev pub invariant-copy_of_items-loop-part : goal.invariant-copy_of_items-loop-part
invariant-copy_of_items-loop-part g l = l.copies ≡ take l.part-index l.part-items

abbrev pub invariant-copy_of_pairs-loop-pair : goal.invariant-copy_of_pairs-loop-pair
invariant-copy_of_pairs-loop-pair g l = l.copies ≡ take l.pair-index l.pair-items
