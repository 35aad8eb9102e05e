use Rattle.std.proofs.Common.{◌≡◌, ◌+◌}
use Rattle.graphql_tree.specs.Counts.{selection_count, set_count}
use Rattle.graphql_tree.proofs.selection.Selection.inside_out.Given as goal

abbrev pub invariant-inwards : goal.invariant-inwards
invariant-inwards g l = selection_count l.self + set_count l.around ≡ selection_count l.fn.self + set_count l.fn.rest

abbrev pub decreases-inwards : goal.decreases-inwards
decreases-inwards g l = selection_count l.self
