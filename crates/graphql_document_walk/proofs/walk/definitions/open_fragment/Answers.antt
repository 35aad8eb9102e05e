use Rattle.std.proofs.Common.{◌++◌, ap, ◌∙◌, Some}
use Rattle.std.specs.Prelude.{[], unwrap_or}
use Rattle.graphql_schema.specs.declared.directive_location.DirectiveLocation.TheVariants as location
use Rattle.graphql_schema.specs.Declarations.{declarations_of}
use Rattle.graphql_occurrences.specs.Events.{top, directives_events, set_events}
use Rattle.graphql_occurrences.specs.Lent.{around_of}
use Rattle.graphql_occurrences.specs.Nodes.{AtFragment, placed_as, fragment_head}
use Rattle.graphql_document_walk.specs.Pending.{pending_events}
use Rattle.graphql_document_walk.proofs.PendingLemmas.{opens_node, adds_then}
use Rattle.graphql_document_walk.proofs.walk.definitions.open_fragment.Goals as goal

pub returns : goal.returns
returns g c =
    let schema = declarations_of c.args.schema.now in
    let f = c.args.fragment.now in
    let inside = around_of c.top-inside.result in
    let inside_is = c.top-inside.ensures ∙ ap (λ n. top (Some n)) c.as_str.ensures in
    let with_set = c.in_ok-add.ensures ∙ ap (λ xs. set_events schema xs inside ++ pending_events schema c.tell.new.tasks) c.as_slice.ensures in
    let with_directives = c.in_ok-add-2.ensures ∙ ap (λ ds. directives_events schema location.FragmentDefinition ds inside ++ pending_events schema c.add.new.tasks) c.directives_in.ensures in
    opens_node schema c.tell-2.result (AtFragment (placed_as f (fragment_head f.item))) (λ r. directives_events schema location.FragmentDefinition (unwrap_or f.item.directives []) r ++ set_events schema f.item.selection_set r) _ _ c.args.tasks.now c.add-2.new.tasks c.tell-2.new.tasks _ inside_is
    c.in_ok-tell.ensures.0 (adds_then _ _ _ _ _ with_set with_directives) c.tell-2.ensures
