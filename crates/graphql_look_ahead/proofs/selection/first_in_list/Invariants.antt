use Rattle.std.proofs.Common.{◌≡◌, drop}
use Rattle.graphql_look_ahead.specs.Selections.{first_of_key}
use Rattle.graphql_look_ahead.proofs.selection.first_in_list.Given as goal

abbrev pub invariant-loop-selection : goal.invariant-loop-selection
invariant-loop-selection g l = first_of_key l.key l.list ≡ first_of_key l.key (drop l.selection-index l.list)
