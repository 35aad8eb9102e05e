use Rattle.std.proofs.Common.{ap, arith}
use Rattle.graphql_tree.specs.Counts.{selection_count}
use Rattle.graphql_tree.proofs.CountEquations.{with_first}
use Rattle.graphql_values.proofs.CountEquations.{has_first}
use Rattle.graphql_tree.proofs.selection.Selection.inside_out.Goals as goal

pub inwards-preserved : goal.inwards-preserved
inwards-preserved g c =
    let some = has_first c.in-Some.set c.is_empty-in-inwards.result c.is_empty-in-inwards.ensures.1 c.if-is_empty-2.false in
    let step = with_first c.in-Some.set c.index_mut.result.now c.replace-self.new.dest some c.index_mut.ensures.value in
    let replaced = c.replace-self.ensures in
    omega (arith, step, ap selection_count replaced.value, ap selection_count replaced.after, c.in-Some.ensures, c.as_one-in-inwards.ensures, c.inwards.invariant)
