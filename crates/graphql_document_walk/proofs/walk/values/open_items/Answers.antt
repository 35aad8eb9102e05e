use Rattle.std.proofs.Common.{◌≡◌, OnOk, subst, ap, ◌∙◌}
use Rattle.graphql_schema.specs.Declarations.{declarations_of}
use Rattle.graphql_occurrences.specs.Lookups.{item_place}
use Rattle.graphql_occurrences.specs.Events.{asked, value_events, item_events}
use Rattle.graphql_occurrences.specs.Lent.{around_of}
use Rattle.graphql_document_walk.specs.Pending.{OpensEvents}
use Rattle.graphql_document_walk.proofs.PendingLemmas.{opens_first, opens_none}
use Rattle.graphql_document_walk.proofs.walk.values.open_items.Goals as goal

pub returns-in-None : goal.returns-in-None
returns-in-None g c =
    let schema = declarations_of c.args.schema.now in
    opens_none schema (λ x. item_events schema x (around_of c.args.around)) c.args.items.now c.args.tasks.now c.in-None.ensures.cases

pub returns-in_ok-add-in-Some : goal.returns-in_ok-add-in-Some
returns-in_ok-add-in-Some g c =
    let schema = declarations_of c.args.schema.now in
    let around = around_of c.args.around in
    let inside : around_of c.asking.result ≡ asked around (item_place around.input) = c.asking.ensures ∙ ap (asked around) c.place_of_items.ensures in
    opens_first schema c.open_value.result (λ x. item_events schema x around) c.args.items.now c.in-Some.rest.now c.in-Some.first.now c.args.tasks.now c.add.new.tasks c.open_value.new.tasks
    c.in-Some.ensures.cases.0 c.in_ok-add-in-Some.ensures
    (subst (λ r. OnOk c.open_value.result (OpensEvents schema (value_events schema c.in-Some.first.now r) c.add.new.tasks c.open_value.new.tasks)) inside c.open_value.ensures)
