use Rattle.std.proofs.Common.{Some, None, ap, sym, ◌∙◌}
use Rattle.std.specs.HashMap.{get_by_text}
use Rattle.graphql_values.specs.Variables.{each_given, constant_item, constant_pair}
use Rattle.graphql_values.proofs.VariableLemmas.{given_more, given_lacks, list_becomes, object_becomes, item_becomes, pair_becomes}
use Rattle.graphql_values.proofs.input_value.variables.+constants.Goals as goal

pub constant-returns-in-Some : goal.constant-returns-in-Some
constant-returns-in-Some g t c =
    list_becomes (get_by_text c.args.variables.now) c.args.value.now c.in-List.items (Some c.in-Some.constants) c.in-List.is (sym c.in-Some.is ∙ c.in_ok-constants-in-List.ensures)

pub constant-returns-in-None : goal.constant-returns-in-None
constant-returns-in-None g t c =
    list_becomes (get_by_text c.args.variables.now) c.args.value.now c.in-List.items None c.in-List.is (sym c.in-None.is ∙ c.in_ok-constants-in-List.ensures)

pub constant-returns-in-Some-2 : goal.constant-returns-in-Some-2
constant-returns-in-Some-2 g t c =
    object_becomes (get_by_text c.args.variables.now) c.args.value.now c.in-Object.pairs (Some c.in-Some-2.constants) c.in-Object.is (sym c.in-Some-2.is ∙ c.in_ok-constants-in-Object.ensures)

pub constant-returns-in-None-2 : goal.constant-returns-in-None-2
constant-returns-in-None-2 g t c =
    object_becomes (get_by_text c.args.variables.now) c.args.value.now c.in-Object.pairs None c.in-Object.is (sym c.in-None-2.is ∙ c.in_ok-constants-in-Object.ensures)

pub constant_items-returns-in_default : goal.constant_items-returns-in_default
constant_items-returns-in_default g t c =
    let given = get_by_text c.args.variables.now in
    let lacks = item_becomes given c.part-item.result None (sym c.in_default.is ∙ c.in_ok-item.ensures) in
    let none = given_lacks (constant_item given) c.as_slice-part-items.result.now c.loop-part.constants c.loop-part.part-index c.part-item.result c.loop-part.invariant c.loop-part-test.true c.part-item.is lacks in
    sym none ∙ ap (each_given (constant_item given)) c.as_slice-part-items.ensures

pub constant_items-loop-part-preserved : goal.constant_items-loop-part-preserved
constant_items-loop-part-preserved g t c =
    let given = get_by_text c.args.variables.now in
    let gives = item_becomes given c.part-item.result (Some c.in-Some.item) (sym c.in-Some.is ∙ c.in_ok-item.ensures) in
    given_more (constant_item given) c.as_slice-part-items.result.now c.loop-part.constants _ c.loop-part.part-index c.part-item.result _ c.loop-part.invariant c.loop-part-test.true c.part-item.is gives c.in_ok-push_at.ensures

pub constant_pairs-returns-in_default : goal.constant_pairs-returns-in_default
constant_pairs-returns-in_default g t c =
    let given = get_by_text c.args.variables.now in
    let lacks = pair_becomes given c.pair-item.result None (sym c.in_default.is ∙ c.in_ok-item.ensures) in
    let none = given_lacks (constant_pair given) c.as_slice-pair-items.result.now c.loop-pair.constants c.loop-pair.pair-index c.pair-item.result c.loop-pair.invariant c.loop-pair-test.true c.pair-item.is lacks in
    sym none ∙ ap (each_given (constant_pair given)) c.as_slice-pair-items.ensures

pub constant_pairs-loop-pair-preserved : goal.constant_pairs-loop-pair-preserved
constant_pairs-loop-pair-preserved g t c =
    let given = get_by_text c.args.variables.now in
    let pair = c.pair-item.result in
    let gives = pair_becomes given pair (Some c.in-Some.item) (sym c.in-Some.is ∙ c.in_ok-item.ensures) in
    given_more (constant_pair given) c.as_slice-pair-items.result.now c.loop-pair.constants _ c.loop-pair.pair-index pair _ c.loop-pair.invariant c.loop-pair-test.true c.pair-item.is gives c.in_ok-push_field.ensures
