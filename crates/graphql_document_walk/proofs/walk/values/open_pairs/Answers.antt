use Rattle.graphql_schema.specs.Declarations.{declarations_of}
use Rattle.graphql_occurrences.specs.Events.{pair_events}
use Rattle.graphql_occurrences.specs.Lent.{around_of}
use Rattle.graphql_document_walk.proofs.PendingLemmas.{opens_first, opens_none}
use Rattle.graphql_document_walk.proofs.walk.values.open_pairs.Goals as goal

pub returns-in-None : goal.returns-in-None
returns-in-None g c =
    let schema = declarations_of c.args.schema.now in
    opens_none schema (λ p. pair_events schema p (around_of c.args.around)) c.args.pairs.now c.args.tasks.now c.in-None.ensures.cases

pub returns-in_ok-add-in-Some : goal.returns-in_ok-add-in-Some
returns-in_ok-add-in-Some g c =
    let schema = declarations_of c.args.schema.now in
    opens_first schema c.open_pair.result (λ p. pair_events schema p (around_of c.args.around)) c.args.pairs.now c.in-Some.rest.now c.in-Some.first.now c.args.tasks.now c.add.new.tasks c.open_pair.new.tasks
    c.in-Some.ensures.cases.0 c.in_ok-add-in-Some.ensures c.open_pair.ensures
