use Rattle.std.proofs.Common.{rules, arith, ap, sym, ◌∙◌, ◌≡◌, Some, None}
use Rattle.graphql_look_ahead.specs.Selections.{below_collected, first_of_key, selections_of}
use Rattle.graphql_look_ahead.proofs.SelectionLemmas.{lists-here, lists-on}
use Rattle.graphql_look_ahead.proofs.selection.first_selected.Goals as goal

pub returns-in-Some : goal.returns-in-Some
returns-in-Some g c =
    let found : first_of_key c.args.key.now (below_collected c.field-item.result) ≡ Some c.in-Some.first.now = search rules in
    sym (ap (λ z. first_of_key c.args.key.now (selections_of z)) c.in-Below.is ∙ c.loop-field.invariant
    ∙ lists-here c.args.key.now below_collected c.in-Below.fields.now c.loop-field.field-index c.field-item.result (omega arith) c.field-item.is c.in-Some.first.now found)

pub loop-field-preserved : goal.loop-field-preserved
loop-field-preserved g c =
    let none : first_of_key c.args.key.now (below_collected c.field-item.result) ≡ None = search rules in
    c.loop-field.invariant
    ∙ lists-on c.args.key.now below_collected c.in-Below.fields.now c.loop-field.field-index c.field-item.result (omega arith) c.field-item.is none
