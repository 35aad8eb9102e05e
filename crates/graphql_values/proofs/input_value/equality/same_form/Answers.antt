use Rattle.std.proofs.Common.{◌<◌, ◌+◌, ap, sym, ◌∙◌, arith}
use Rattle.graphql_values.specs.Comparing.{LeavesSame, left_count}
use Rattle.graphql_values.specs.Counts.{value_count}
use Rattle.graphql_values.specs.SameValue.{SameItems, SameFields, SameValue}
use Rattle.graphql_values.proofs.ComparingLemmas.{decided, leaves_as, ok_maps}
use Rattle.graphql_values.proofs.CountEquations.{count_list, count_object}
use Rattle.graphql_values.proofs.SameValueLemmas.{null_case, scalar_case, enum_case, variable_case, list_case, object_case}
use Rattle.graphql_values.proofs.input_value.equality.same_form.Goals as goal

pub returns-in-Null-clause-leaves : goal.returns-in-Null-clause-leaves
returns-in-Null-clause-leaves g c =
    decided g.S.PartialEq.eq (SameValue _ g.S.PartialEq.eq c.args.left.now c.args.right.now) c.args.waiting.now c.is_null.result (null_case g.S.PartialEq.eq c.is_null.result c.args.left.now c.args.right.now c.in-Null.is c.is_null.ensures)

pub returns-in-Scalar-right-clause-leaves : goal.returns-in-Scalar-right-clause-leaves
returns-in-Scalar-right-clause-leaves g c =
    decided g.S.PartialEq.eq (SameValue _ g.S.PartialEq.eq c.args.left.now c.args.right.now) c.args.waiting.now c.eq.result
    (scalar_case g.S.PartialEq.eq c.eq.result c.args.left.now c.args.right.now c.in-Scalar.scalar c.in-Scalar-right.other c.in-Scalar.is c.in-Scalar-right.is c.eq.ensures)

pub returns-in-Enum-right-clause-leaves : goal.returns-in-Enum-right-clause-leaves
returns-in-Enum-right-clause-leaves g c =
    decided g.S.PartialEq.eq (SameValue _ g.S.PartialEq.eq c.args.left.now c.args.right.now) c.args.waiting.now c.is.result
    (enum_case g.S.PartialEq.eq c.is.result c.args.left.now c.args.right.now c.in-Enum.name c.in-Enum-right.other c.in-Enum.is c.in-Enum-right.is (λ t. c.is.ensures.same.0 t ∙ c.as_str.ensures, λ e. c.is.ensures.same.1 (e ∙ sym c.as_str.ensures)))

pub returns-in-Variable-right-clause-leaves : goal.returns-in-Variable-right-clause-leaves
returns-in-Variable-right-clause-leaves g c =
    decided g.S.PartialEq.eq (SameValue _ g.S.PartialEq.eq c.args.left.now c.args.right.now) c.args.waiting.now c.is-in-Variable-right.result
    (variable_case g.S.PartialEq.eq c.is-in-Variable-right.result c.args.left.now c.args.right.now c.in-Variable.name c.in-Variable-right.other c.in-Variable.is c.in-Variable-right.is
    (λ t. c.is-in-Variable-right.ensures.same.0 t ∙ c.as_str-in-Variable-right.ensures, λ e. c.is-in-Variable-right.ensures.same.1 (e ∙ sym c.as_str-in-Variable-right.ensures)))

pub returns-in-List-right-clause-leaves : goal.returns-in-List-right-clause-leaves
returns-in-List-right-clause-leaves g c =
    let eq = g.S.PartialEq.eq in
    let left = c.args.left.now in
    let right = c.args.right.now in
    let V = SameItems _ eq c.in-List.items c.in-List-right.others in
    let case = list_case eq left right c.in-List.items c.in-List-right.others c.in-List.is c.in-List-right.is in
    ok_maps (LeavesSame eq V c.args.waiting.now c.leave_items.new.waiting) (LeavesSame eq (SameValue _ eq left right) c.args.waiting.now c.leave_items.new.waiting) c.leave_items.result
    (λ stands. leaves_as eq V (SameValue _ eq left right) c.args.waiting.now c.leave_items.new.waiting stands case.0 case.1) c.leave_items.ensures.leaves

pub returns-in-List-right-clause-fewer : goal.returns-in-List-right-clause-fewer
returns-in-List-right-clause-fewer g c =
    let new = c.leave_items.new.waiting in
    ok_maps _ (λ _. left_count new < left_count c.args.waiting.now + value_count c.args.left.now) c.leave_items.result
    (λ stands within. omega (arith, within, ap value_count c.in-List.is, count_list c.in-List.items)) c.leave_items.ensures.count

pub returns-in-Object-right-clause-leaves : goal.returns-in-Object-right-clause-leaves
returns-in-Object-right-clause-leaves g c =
    let eq = g.S.PartialEq.eq in
    let left = c.args.left.now in
    let right = c.args.right.now in
    let V = SameFields _ eq c.in-Object.pairs c.in-Object-right.others in
    let case = object_case eq left right c.in-Object.pairs c.in-Object-right.others c.in-Object.is c.in-Object-right.is in
    ok_maps (LeavesSame eq V c.args.waiting.now c.leave_fields.new.waiting) (LeavesSame eq (SameValue _ eq left right) c.args.waiting.now c.leave_fields.new.waiting) c.leave_fields.result
    (λ stands. leaves_as eq V (SameValue _ eq left right) c.args.waiting.now c.leave_fields.new.waiting stands case.0 case.1) c.leave_fields.ensures.leaves

pub returns-in-Object-right-clause-fewer : goal.returns-in-Object-right-clause-fewer
returns-in-Object-right-clause-fewer g c =
    let new = c.leave_fields.new.waiting in
    ok_maps _ (λ _. left_count new < left_count c.args.waiting.now + value_count c.args.left.now) c.leave_fields.result
    (λ stands within. omega (arith, within, ap value_count c.in-Object.is, count_object c.in-Object.pairs)) c.leave_fields.ensures.count
