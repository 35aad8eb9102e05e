use Rattle.std.proofs.Common.{◌∷◌, ◌++◌, OnOk, ap, subst, ◌∙◌}
use Rattle.std.specs.Prelude.{[], unwrap_or}
use Rattle.graphql_schema.specs.declared.directive_location.DirectiveLocation.TheVariants as location
use Rattle.graphql_schema.specs.Declarations.{declarations_of}
use Rattle.graphql_occurrences.specs.Lookups.{field_arguments, field_of, field_type}
use Rattle.graphql_tree.specs.Documents.{arguments_in}
use Rattle.graphql_occurrences.specs.Events.{selecting, seen_event, arguments_events, directives_events, optional_set}
use Rattle.graphql_occurrences.specs.Lent.{around_of}
use Rattle.graphql_occurrences.specs.Nodes.{Enter, Leave, Inner, AtField, OfField, placed_as, field_head}
use Rattle.graphql_document_walk.specs.Pending.{OpensEvents, pending_events}
use Rattle.graphql_document_walk.proofs.PendingLemmas.{opens_node, adds_then}
use Rattle.graphql_document_walk.proofs.walk.selections.open_field.Goals as goal

pub returns : goal.returns
returns g c =
    let schema = declarations_of c.args.schema.now in
    let f = c.args.field.now in
    let outer = around_of c.args.outer in
    let inside = around_of c.selecting-inside.result in
    let name_is = c.as_str-name.ensures in
    let definition_is = c.field_of-definition.ensures ∙ ap (field_of outer.parent) name_is in
    let inside_is = c.selecting-inside.ensures ∙ ap (selecting outer) (c.type_of_field.ensures ∙ ap field_type definition_is) in
    let declared_is = c.arguments_of_field.ensures ∙ ap field_arguments definition_is in
    let with_directives = c.in_ok-add.ensures ∙ ap (λ ds. directives_events schema location.Field ds inside ++ pending_events schema c.add_optional_set.new.tasks) c.directives_in.ensures in
    let with_arguments = c.in_ok-add-2.ensures ∙ (λ i. arguments_events schema (OfField (name_is i)) (declared_is i) (c.arguments_in.ensures i) inside ++ pending_events schema c.add.new.tasks) in
    let head = placed_as f (field_head f.item) in
    let known = field_of outer.parent f.item.name.item in
    opens_node schema c.tell-2.result (Inner (AtField known head))
    (λ r. arguments_events schema (OfField f.item.name.item) (field_arguments known) (arguments_in f.item.arguments) r ++ (directives_events schema location.Field (unwrap_or f.item.directives []) r ++ optional_set schema f.item.selection_set r))
    _ _ c.args.tasks.now c.add-2.new.tasks c.tell-2.new.tasks _ inside_is
    (c.in_ok-tell.ensures.0 ∙ ap (λ k. (seen_event inside (Leave (Inner (AtField k head))) ∷ []) ++ pending_events schema c.args.tasks.now) definition_is)
    (adds_then _ _ _ _ _ (adds_then _ _ _ _ _ c.in_ok-add_optional_set.ensures with_directives) with_arguments)
    (subst (λ k. OnOk c.tell-2.result (OpensEvents schema (seen_event inside (Enter (Inner (AtField k head))) ∷ []) c.add-2.new.tasks c.tell-2.new.tasks)) definition_is c.tell-2.ensures)
