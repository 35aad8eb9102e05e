use Rattle.std.proofs.Common.{arith, ap, refl}
use Rattle.graphql_output_values.specs.Counts.{value_count}
use Rattle.graphql_output_values.proofs.CountEquations.{count-empty, count-only, count-popped}
use Rattle.graphql_output_values.proofs.value.Value.let_one_go.Goals as goal

pub returns-in-None-pop : goal.returns-in-None-pop
returns-in-None-pop g c = count-empty c.args.self c.in-Object.object c.in-Object.is c.in-None-pop.ensures.0

pub returns-in-Some-pop : goal.returns-in-Some-pop
returns-in-Some-pop g c =
    count-only c.args.self c.in-Object.object c.pop-in-Object.new.self (c.in-Some-pop.field-0-0, c.in-Some-pop.last) c.in-Object.is c.in-Some-pop.ensures (c.if-is_empty-2.ensures.0 refl)

pub returns : goal.returns
returns g c =
    let whole = count-popped c.args.self c.in-Object.object c.pop-in-Object.new.self (c.in-Some-2-pop.field-0-0, c.in-Some-2-pop.last) c.in-Object.is c.in-Some-2-pop.ensures in
    omega (arith, whole, ap value_count c.in-Some-2-pop.last-is, c.inside_out-in-Some-2-pop.ensures)
