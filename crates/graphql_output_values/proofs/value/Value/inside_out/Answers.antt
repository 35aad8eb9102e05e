use Rattle.std.proofs.Common.{◌≡◌, arith, ap, true, false}
use Rattle.graphql_output_values.specs.Counts.{value_count}
use Rattle.graphql_output_values.proofs.CountEquations.{count-swapped}
use Rattle.graphql_output_values.proofs.value.Value.inside_out.Goals as goal

pub inwards-preserved : goal.inwards-preserved
inwards-preserved g c =
    let whole = ap value_count c.in-Object.is in
    let part = ap value_count c.replace-self-in-Object.ensures.value in
    let put = ap value_count c.replace-self-in-Object.ensures.after in
    let swapped = count-swapped c.in-Object.object c.index_mut-in-Object.result.now (c.index_mut-in-Object.result.now.0, c.replace-self-in-Object.new.dest) (λ none. let wrong : false ≡ true = c.if-is_empty-2.ensures.1 none in (cc)) c.index_mut-in-Object.ensures.value in
    omega (arith, whole, part, put, swapped, c.inwards.invariant)
