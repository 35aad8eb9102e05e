use Rattle.std.proofs.Common.{[], refl, ap, arith}
use Rattle.graphql_values.specs.declared.input_value.InputValue.TheVariants as value
use Rattle.graphql_values.specs.Counts.{value_count}
use Rattle.graphql_values.proofs.CountEquations.{count_object, without_last_item, without_last_field}
use Rattle.graphql_values.proofs.input_value.InputValue.let_one_go.Goals as goal

pub returns-in-List : goal.returns-in-List
returns-in-List g c =
    let fewer = without_last_item c.in-List.items c.pop.new.self c.in-Some.last c.in-Some.ensures in
    omega (arith, ap value_count c.in-List.is, fewer, c.inside_out.ensures)

pub returns-in-Some-pop : goal.returns-in-Some-pop
returns-in-Some-pop g c =
    let fewer = without_last_field c.in-Object.pairs c.pop-in-Object.new.self (c.in-Some-pop.field-0-0, c.in-Some-pop.last) c.in-Some-pop.ensures in
    let none_left = ap (λ ps. value_count (value.Object ps)) (c.if-is_empty-2.ensures.0 refl) in
    omega (arith, ap value_count c.in-Object.is, fewer, none_left, count_object {S = g.row.S.Denot} [])

pub returns : goal.returns
returns g c =
    let fewer = without_last_field c.in-Object.pairs c.pop-in-Object.new.self (c.in-Some-pop.field-0-0, c.in-Some-pop.last) c.in-Some-pop.ensures in
    omega (arith, ap value_count c.in-Object.is, fewer, c.inside_out-in-Some-2-pop.ensures)
