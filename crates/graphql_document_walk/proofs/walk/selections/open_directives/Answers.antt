use Rattle.graphql_schema.specs.Declarations.{declarations_of}
use Rattle.graphql_occurrences.specs.Events.{directive_events}
use Rattle.graphql_occurrences.specs.Lent.{around_of}
use Rattle.graphql_document_walk.proofs.PendingLemmas.{opens_first, opens_none}
use Rattle.graphql_document_walk.proofs.walk.selections.open_directives.Goals as goal

pub returns-in-None : goal.returns-in-None
returns-in-None g c =
    let schema = declarations_of c.args.schema.now in
    opens_none schema (λ d. directive_events schema c.args.place d (around_of c.args.around)) c.args.directives.now c.args.tasks.now c.in-None.ensures.cases

pub returns-in_ok-add-in-Some : goal.returns-in_ok-add-in-Some
returns-in_ok-add-in-Some g c =
    let schema = declarations_of c.args.schema.now in
    opens_first schema c.open_directive.result (λ d. directive_events schema c.args.place d (around_of c.args.around)) c.args.directives.now c.in-Some.rest.now c.in-Some.first.now c.args.tasks.now c.add.new.tasks c.open_directive.new.tasks
    c.in-Some.ensures.cases.0 c.in_ok-add-in-Some.ensures c.open_directive.ensures
