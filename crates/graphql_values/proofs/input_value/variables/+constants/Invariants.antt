use Rattle.std.proofs.Common.{◌≡◌, Some, take}
use Rattle.std.specs.HashMap.{get_by_text}
use Rattle.graphql_values.specs.Variables.{each_given, constant_item, constant_pair}
use Rattle.graphql_values.proofs.input_value.variables.+constants.Given as goal

abbrev pub invariant-constant_items-loop-part : goal.invariant-constant_items-loop-part
invariant-constant_items-loop-part g l = each_given (constant_item (get_by_text l.variables)) (take l.part-index l.part-items) ≡ Some l.constants

abbrev pub invariant-constant_pairs-loop-pair : goal.invariant-constant_pairs-loop-pair
invariant-constant_pairs-loop-pair g l = each_given (constant_pair (get_by_text l.variables)) (take l.pair-index l.pair-items) ≡ Some l.constants
