use Rattle.std.proofs.Common.{ap, arith}
use Rattle.graphql_values.specs.Counts.{value_count}
use Rattle.graphql_values.proofs.CountEquations.{has_first, with_first_item, with_first_field}
use Rattle.graphql_values.proofs.input_value.InputValue.inside_out.Goals as goal

pub inwards-preserved-in-List : goal.inwards-preserved-in-List
inwards-preserved-in-List g c =
    let replaced = c.replace-self.ensures in
    let some = has_first c.in-List.items c.is_empty.result c.is_empty.ensures.1 c.if-is_empty.false in
    let step = with_first_item c.inwards.self c.replace-self.new.dest c.in-List.items c.index_mut.result.now c.in-List.is some c.index_mut.ensures.value in
    omega (arith, step, ap value_count replaced.value, ap value_count replaced.after, c.inwards.invariant)

pub inwards-preserved : goal.inwards-preserved
inwards-preserved g c =
    let replaced = c.replace-self-in-Object.ensures in
    let some = has_first c.in-Object.pairs c.is_empty-in-Object.result c.is_empty-in-Object.ensures.1 c.if-is_empty-2.false in
    let step = with_first_field c.inwards.self c.replace-self-in-Object.new.dest c.in-Object.pairs c.index_mut-in-Object.result.now c.in-Object.is some c.index_mut-in-Object.ensures.value in
    omega (arith, step, ap value_count replaced.value, ap value_count replaced.after, c.inwards.invariant)
