use Rattle.std.proofs.Common.{◌++◌, ap, ◌∙◌}
use Rattle.std.specs.Prelude.{[], unwrap_or}
use Rattle.std.specs.Option.{option_map}
use Rattle.graphql_schema.specs.Lookups.{own_name}
use Rattle.graphql_schema.specs.Declarations.{declarations_of}
use Rattle.graphql_occurrences.specs.Lookups.{location_of}
use Rattle.graphql_tree.specs.Documents.{variables_in}
use Rattle.graphql_occurrences.specs.Events.{top, through_each, directives_events, set_events, variable_events}
use Rattle.graphql_occurrences.specs.Lent.{around_of}
use Rattle.graphql_occurrences.specs.Nodes.{AtOperation, placed_as, operation_head}
use Rattle.graphql_document_walk.specs.Pending.{pending_events}
use Rattle.graphql_document_walk.proofs.PendingLemmas.{opens_node, adds_then}
use Rattle.graphql_document_walk.proofs.walk.definitions.open_operation.Goals as goal

pub returns : goal.returns
returns g c =
    let schema = declarations_of c.args.schema.now in
    let o = c.args.operation.now in
    let inside = around_of c.top-inside.result in
    let inside_is = c.top-inside.ensures ∙ ap top (c.name_of_root.ensures ∙ ap (option_map own_name) c.root_of.ensures) in
    let with_set = c.in_ok-add.ensures ∙ ap (λ xs. set_events schema xs inside ++ pending_events schema c.tell.new.tasks) c.as_slice.ensures in
    let with_directives = c.in_ok-add-2.ensures ∙ (λ i. directives_events schema (c.place_of.ensures i) (c.directives_in.ensures i) inside ++ pending_events schema c.add.new.tasks) in
    let with_variables = c.in_ok-add-3.ensures ∙ ap (λ vs. through_each (variable_events schema) vs inside ++ pending_events schema c.add-2.new.tasks) c.variables_in.ensures in
    opens_node schema c.tell-2.result (AtOperation (placed_as o (operation_head o.item)))
    (λ r. through_each (variable_events schema) (variables_in o.item.variable_definitions) r ++ (directives_events schema (location_of o.item.operation_type) (unwrap_or o.item.directives []) r ++ set_events schema o.item.selection_set r))
    _ _ c.args.tasks.now c.add-3.new.tasks c.tell-2.new.tasks _ inside_is c.in_ok-tell.ensures.0 (adds_then _ _ _ _ _ (adds_then _ _ _ _ _ with_set with_directives) with_variables) c.tell-2.ensures
