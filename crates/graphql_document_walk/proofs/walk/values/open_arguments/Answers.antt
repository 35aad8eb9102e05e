use Rattle.std.specs.Option.{option_map}
use Rattle.graphql_schema.specs.Declarations.{declarations_of}
use Rattle.graphql_occurrences.specs.Events.{argument_events}
use Rattle.graphql_occurrences.specs.Lent.{arguments_lent, around_of, owner_of}
use Rattle.graphql_document_walk.proofs.PendingLemmas.{opens_first, opens_none}
use Rattle.graphql_document_walk.proofs.walk.values.open_arguments.Goals as goal

pub returns-in-None : goal.returns-in-None
returns-in-None g c =
    let schema = declarations_of c.args.schema.now in
    opens_none schema (λ a. argument_events schema (owner_of c.args.owner) (option_map arguments_lent c.args.declared) a (around_of c.args.around)) c.args.arguments.now c.args.tasks.now c.in-None.ensures.cases

pub returns-in_ok-add-in-Some : goal.returns-in_ok-add-in-Some
returns-in_ok-add-in-Some g c =
    let schema = declarations_of c.args.schema.now in
    opens_first schema c.open_argument.result (λ a. argument_events schema (owner_of c.args.owner) (option_map arguments_lent c.args.declared) a (around_of c.args.around)) c.args.arguments.now c.in-Some.rest.now c.in-Some.first.now c.args.tasks.now c.add.new.tasks c.open_argument.new.tasks
    c.in-Some.ensures.cases.0 c.in_ok-add-in-Some.ensures c.open_argument.ensures
