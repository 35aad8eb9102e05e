use Rattle.std.proofs.Common.{OnOk, refl, sym, subst}
use Rattle.graphql_schema.specs.Declarations.{declarations_of}
use Rattle.graphql_occurrences.specs.Events.{content_events}
use Rattle.graphql_occurrences.specs.Lent.{around_of}
use Rattle.graphql_occurrences.specs.Nodes.{Inner, AtValue, placed_as, value_head}
use Rattle.graphql_document_walk.specs.Pending.{OpensEvents}
use Rattle.graphql_document_walk.proofs.PendingLemmas.{opens_node}
use Rattle.graphql_occurrences.proofs.ValueEvents.{value_is}
use Rattle.graphql_document_walk.proofs.walk.values.open_value.Goals as goal

pub returns : goal.returns
returns g c =
    let schema = declarations_of c.args.schema.now in
    let v = c.args.value.now in
    let around = around_of c.args.around in
    subst (λ es. OnOk c.tell-2.result (OpensEvents schema es c.args.tasks.now c.tell-2.new.tasks)) (sym (value_is schema v.item v.span around))
    (opens_node schema c.tell-2.result (Inner (AtValue (placed_as v (value_head v.item)))) (content_events schema v.item) around around c.args.tasks.now c.add_content.new.tasks c.tell-2.new.tasks _ refl
    c.in_ok-tell.ensures.0 c.in_ok-add_content.ensures c.tell-2.ensures)
