use Rattle.std.proofs.Common.{OnOk, sym, ap, subst, ◌∙◌}
use Rattle.graphql_schema.specs.Declarations.{declarations_of}
use Rattle.graphql_occurrences.specs.Events.{selection_events}
use Rattle.graphql_occurrences.specs.Lent.{around_of}
use Rattle.graphql_document_walk.specs.Pending.{OpensEvents}
use Rattle.graphql_occurrences.proofs.SelectionEvents.{selection_field, selection_spread, selection_inline}
use Rattle.graphql_document_walk.proofs.walk.selections.open_selection.Goals as goal

pub returns-in-Field : goal.returns-in-Field
returns-in-Field g c =
    let schema = declarations_of c.args.schema.now in
    let around = around_of c.args.around in
    subst (λ es. OnOk c.open_field.result (OpensEvents schema es c.args.tasks.now c.open_field.new.tasks)) (sym (ap (λ s. selection_events schema s around) c.in-Field.is ∙ selection_field schema _ around)) c.open_field.ensures

pub returns-in-FragmentSpread : goal.returns-in-FragmentSpread
returns-in-FragmentSpread g c =
    let schema = declarations_of c.args.schema.now in
    let around = around_of c.args.around in
    subst (λ es. OnOk c.open_spread.result (OpensEvents schema es c.args.tasks.now c.open_spread.new.tasks)) (sym (ap (λ s. selection_events schema s around) c.in-FragmentSpread.is ∙ selection_spread schema _ around)) c.open_spread.ensures

pub returns-in-InlineFragment : goal.returns-in-InlineFragment
returns-in-InlineFragment g c =
    let schema = declarations_of c.args.schema.now in
    let around = around_of c.args.around in
    subst (λ es. OnOk c.open_inline.result (OpensEvents schema es c.args.tasks.now c.open_inline.new.tasks)) (sym (ap (λ s. selection_events schema s around) c.in-InlineFragment.is ∙ selection_inline schema _ around)) c.open_inline.ensures
