use Rattle.std.proofs.Common.{◌≡◌, ap, ◌∙◌}
use Rattle.std.specs.Option.{option_map}
use Rattle.graphql_schema.specs.Declarations.{declarations_of}
use Rattle.graphql_occurrences.specs.Lookups.{argument_place}
use Rattle.graphql_occurrences.specs.Events.{asked, value_events}
use Rattle.graphql_occurrences.specs.Lent.{arguments_lent, around_of, owner_of}
use Rattle.graphql_occurrences.specs.Nodes.{Inner, AtArgument}
use Rattle.graphql_document_walk.proofs.PendingLemmas.{opens_node}
use Rattle.graphql_document_walk.proofs.walk.values.open_argument.Goals as goal

pub returns : goal.returns
returns g c =
    let schema = declarations_of c.args.schema.now in
    let a = c.args.argument.now in
    let declared = option_map arguments_lent c.args.declared in
    let around = around_of c.args.around in
    let inside : around_of c.asking-inside.result ≡ asked around (argument_place declared a.0.item) =
    c.asking-inside.ensures ∙ ap (asked around) (c.place_of_argument.ensures ∙ ap (argument_place declared) c.as_str.ensures) in
    opens_node schema c.tell-2.result (Inner (AtArgument (owner_of c.args.owner) declared a)) (value_events schema a.1) _ _ c.args.tasks.now c.add.new.tasks c.tell-2.new.tasks _ inside c.in_ok-tell.ensures.0 c.in_ok-add.ensures c.tell-2.ensures
