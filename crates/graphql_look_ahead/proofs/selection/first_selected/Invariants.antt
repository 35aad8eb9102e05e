use Rattle.std.proofs.Common.{◌≡◌, drop}
use Rattle.std.specs.List.{flat_map}
use Rattle.graphql_look_ahead.specs.Selections.{below_collected, first_of_key}
use Rattle.graphql_look_ahead.proofs.selection.first_selected.Given as goal

abbrev pub invariant-loop-field : goal.invariant-loop-field
invariant-loop-field g l = first_of_key l.key (flat_map below_collected l.fields) ≡ first_of_key l.key (flat_map below_collected (drop l.field-index l.fields))
