use Rattle.std.proofs.Common.{◌++◌, ap, ◌∙◌}
use Rattle.std.specs.Prelude.{[], unwrap_or}
use Rattle.graphql_schema.specs.declared.directive_location.DirectiveLocation.TheVariants as location
use Rattle.graphql_schema.specs.Declarations.{declarations_of}
use Rattle.graphql_occurrences.specs.Events.{directives_events, set_events}
use Rattle.graphql_occurrences.specs.Lent.{around_of}
use Rattle.graphql_occurrences.specs.Nodes.{Inner, AtInlineFragment, placed_as, inline_head}
use Rattle.graphql_document_walk.specs.Pending.{pending_events}
use Rattle.graphql_document_walk.proofs.PendingLemmas.{opens_node, adds_then}
use Rattle.graphql_document_walk.proofs.walk.selections.open_inline.Goals as goal

pub returns : goal.returns
returns g c =
    let schema = declarations_of c.args.schema.now in
    let i = c.args.inline.now in
    let inside = around_of c.inside_condition-inside.result in
    let with_set = c.in_ok-add.ensures ∙ ap (λ xs. set_events schema xs inside ++ pending_events schema c.tell.new.tasks) c.as_slice.ensures in
    let with_directives = c.in_ok-add-2.ensures ∙ ap (λ ds. directives_events schema location.InlineFragment ds inside ++ pending_events schema c.add.new.tasks) c.directives_in.ensures in
    opens_node schema c.tell-2.result (Inner (AtInlineFragment (placed_as i (inline_head i.item)))) (λ r. directives_events schema location.InlineFragment (unwrap_or i.item.directives []) r ++ set_events schema i.item.selection_set r) _ _ c.args.tasks.now c.add-2.new.tasks c.tell-2.new.tasks _ c.inside_condition-inside.ensures
    c.in_ok-tell.ensures.0 (adds_then _ _ _ _ _ with_set with_directives) c.tell-2.ensures
