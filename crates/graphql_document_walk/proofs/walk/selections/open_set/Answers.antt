use Rattle.std.proofs.Common.{◌++◌, OnOk, inr, refl, sym, ap, subst}
use Rattle.std.specs.Option.{option_copied}
use Rattle.graphql_schema.specs.Declarations.{declarations_of}
use Rattle.graphql_occurrences.specs.Events.{through_each, selection_events}
use Rattle.graphql_occurrences.specs.Lent.{around_of}
use Rattle.graphql_occurrences.specs.Nodes.{Inner, AtSelectionSet}
use Rattle.graphql_document_walk.specs.Pending.{OpensEvents, pending_events}
use Rattle.graphql_document_walk.proofs.PendingLemmas.{opens_any, opens_node}
use Rattle.graphql_occurrences.proofs.SelectionEvents.{set_unknown, set_known}
use Rattle.graphql_document_walk.proofs.walk.selections.open_set.Goals as goal

pub returns-in-None : goal.returns-in-None
returns-in-None g c =
    let schema = declarations_of c.args.schema.now in
    (sym (ap (λ es. es ++ pending_events schema c.args.tasks.now) (set_unknown schema c.args.selections.now (around_of c.args.around) (around_of c.inside_set-inside.result) c.inside_set-inside.ensures (ap option_copied c.in-None.is))), inr refl)

pub returns-in_ok-add-in-Some : goal.returns-in_ok-add-in-Some
returns-in_ok-add-in-Some g c =
    let schema = declarations_of c.args.schema.now in
    let inside = around_of c.inside_set-inside.result in
    opens_any schema c.tell-in-Some.result _ c.args.tasks.now c.tell-in-Some.new.tasks
    (subst (λ es. OnOk c.tell-in-Some.result (OpensEvents schema es c.args.tasks.now c.tell-in-Some.new.tasks))
    (sym (set_known schema c.args.selections.now (around_of c.args.around) inside _ c.inside_set-inside.ensures (ap option_copied c.in-Some.is)))
    (opens_node schema c.tell-in-Some.result (Inner AtSelectionSet) (through_each (selection_events schema) c.args.selections.now) inside inside c.args.tasks.now c.add.new.tasks c.tell-in-Some.new.tasks _ refl
    c.in_ok-tell-in-Some.ensures.0 c.in_ok-add-in-Some.ensures c.tell-in-Some.ensures))
