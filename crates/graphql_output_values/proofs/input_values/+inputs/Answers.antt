use Rattle.std.proofs.Common.{rules, arith, ◌≡◌, ◌++◌, [], ◌∷◌, map, ap, sym, ◌∙◌}
use Rattle.graphql_output_values.specs.declared.key.Key.{Key}
use Rattle.graphql_output_values.specs.declared.value.Value.{Value}
use Rattle.graphql_output_values.specs.InputOfOutput.{input_of}
use Rattle.graphql_values.specs.InputValues.{unplaced, unplaced_pair}
use Rattle.graphql_values.proofs.Growing.{mapped_more, all_mapped}
use Rattle.graphql_output_values.proofs.InputOfOutputLemmas.{input_of_list, fields_of_object}
use Rattle.graphql_output_values.proofs.input_values.+inputs.Goals as goal

pub inputs_of-items-preserved : goal.inputs_of-items-preserved
inputs_of-items-preserved g t c =
    let this = c.item-item.result in
    let after : c.push_unlocated.new.items ≡ c.items.inputs ++ unplaced (input_of this) ∷ [] = search rules in
    mapped_more (λ x. unplaced (input_of x)) c.args.items.now c.items.inputs c.push_unlocated.new.items c.items.item-index this c.items.invariant c.items-test.true c.item-item.is after

pub fields_of-fields-preserved : goal.fields_of-fields-preserved
fields_of-fields-preserved g t c =
    let this = c.field-item.result in
    let after : c.push.new.self ≡ c.fields.pairs ++ unplaced_pair (this.0, input_of this.1) ∷ [] = search rules in
    mapped_more (λ p. unplaced_pair (p.0, input_of p.1)) c.as_slice-field-items.result.now c.fields.pairs c.push.new.self c.fields.field-index this c.fields.invariant c.fields-test.true c.field-item.is after

pub fields_of-returns : goal.fields_of-returns
fields_of-returns g t c =
    let field = λ (p : Key × Value g.row.S.Denot). unplaced_pair (p.0, input_of {S = g.row.S.Denot} p.1) in
    all_mapped field c.as_slice-field-items.result.now c.fields.pairs c.fields.field-index c.fields.invariant (omega arith)
    ∙ ap (map field) c.as_slice-field-items.ensures ∙ sym (fields_of_object {S = g.row.S.Denot} c.args.object.now)

pub input_of-returns-in_ok-inputs_of-in-List : goal.input_of-returns-in_ok-inputs_of-in-List
input_of-returns-in_ok-inputs_of-in-List g t c =
    let whole = input_of_list c.in-List.items in
    search rules
