use Rattle.std.proofs.Common.{◌≡◌, ap, ◌∙◌}
use Rattle.graphql_schema.specs.Declarations.{declarations_of}
use Rattle.graphql_occurrences.specs.Lookups.{field_place}
use Rattle.graphql_occurrences.specs.Events.{asked, value_events}
use Rattle.graphql_occurrences.specs.Lent.{around_of}
use Rattle.graphql_occurrences.specs.Nodes.{Inner, AtObjectField}
use Rattle.graphql_document_walk.proofs.PendingLemmas.{opens_node}
use Rattle.graphql_document_walk.proofs.walk.values.open_pair.Goals as goal

pub returns : goal.returns
returns g c =
    let schema = declarations_of c.args.schema.now in
    let pair = c.args.pair.now in
    let around = around_of c.args.around in
    let inside : around_of c.asking-inside.result ≡ asked around (field_place schema around.input pair.0.item) =
    c.asking-inside.ensures ∙ ap (asked around) (c.place_of_field.ensures ∙ ap (field_place schema around.input) c.as_str.ensures) in
    opens_node schema c.tell-2.result (Inner (AtObjectField pair.0)) (value_events schema pair.1) _ _ c.args.tasks.now c.add.new.tasks c.tell-2.new.tasks _ inside c.in_ok-tell.ensures.0 c.in_ok-add.ensures c.tell-2.ensures
