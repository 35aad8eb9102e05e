use Rattle.std.proofs.Common.{◌≡◌, map, take}
use Rattle.std.specs.List.{filter_map}
use Rattle.graphql_written_out.specs.Filled.{filled_item, filled_pair}
use Rattle.graphql_written_out.specs.FinalVariables.{value_in}
use Rattle.graphql_arguments.proofs.made_value.+made.Given as goal

abbrev pub invariant-made_items-loop-part : goal.invariant-made_items-loop-part
invariant-made_items-loop-part g l = l.made ≡ map (filled_item (value_in l.variables)) (take l.part-index l.part-items)

abbrev pub invariant-made_pairs-loop-pair : goal.invariant-made_pairs-loop-pair
invariant-made_pairs-loop-pair g l = l.made ≡ filter_map (filled_pair (value_in l.variables)) (take l.pair-index l.pair-items)
