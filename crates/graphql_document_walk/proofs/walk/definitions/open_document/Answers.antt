use Rattle.std.specs.List.{flat_map}
use Rattle.graphql_schema.specs.Declarations.{declarations_of}
use Rattle.graphql_occurrences.specs.Events.{events, definition_events}
use Rattle.graphql_occurrences.specs.Nodes.{AtDocument}
use Rattle.graphql_document_walk.proofs.PendingLemmas.{opens_node}
use Rattle.graphql_document_walk.proofs.walk.definitions.open_document.Goals as goal

pub returns : goal.returns
unfolding events
returns g c =
    let schema = declarations_of c.args.schema.now in
    let document = c.args.document.now in
    opens_node schema c.tell-2.result (AtDocument document) (λ r. flat_map (definition_events schema) document) _ _ c.args.tasks.now c.add.new.tasks c.tell-2.new.tasks _ c.nowhere-outside.ensures c.in_ok-tell.ensures.0 c.in_ok-add.ensures c.tell-2.ensures
