use Rattle.std.proofs.Common.{◌∷◌, ◌++◌, OnOk, refl, ap, subst, ◌∙◌}
use Rattle.std.specs.Prelude.{[]}
use Rattle.graphql_schema.specs.Declarations.{declarations_of}
use Rattle.graphql_schema.specs.StandardDirectives.{directive_named}
use Rattle.graphql_occurrences.specs.Lookups.{directive_arguments}
use Rattle.graphql_tree.specs.Documents.{arguments_in}
use Rattle.graphql_occurrences.specs.Events.{seen_event, arguments_events}
use Rattle.graphql_occurrences.specs.Lent.{around_of}
use Rattle.graphql_occurrences.specs.Nodes.{Enter, Leave, Inner, AtDirective, OfDirective}
use Rattle.graphql_document_walk.specs.Pending.{OpensEvents, pending_events}
use Rattle.graphql_document_walk.proofs.PendingLemmas.{opens_node}
use Rattle.graphql_document_walk.proofs.walk.selections.open_directive.Goals as goal

pub returns : goal.returns
returns g c =
    let schema = declarations_of c.args.schema.now in
    let d = c.args.directive.now in
    let around = around_of c.args.around in
    let name_is = c.as_str-name.ensures in
    let found = directive_named schema.directives d.item.name.item in
    let found_is = c.directive_by_name-declared.ensures.found ∙ ap (directive_named schema.directives) name_is in
    let arguments_are = c.declared_by_directive.ensures ∙ ap directive_arguments found_is in
    opens_node schema c.tell-2.result (Inner (AtDirective c.args.place found d)) (arguments_events schema (OfDirective d.item.name.item) (directive_arguments found) (arguments_in d.item.arguments)) around around c.args.tasks.now c.add.new.tasks c.tell-2.new.tasks _ refl
    (c.in_ok-tell.ensures.0 ∙ ap (λ k. (seen_event around (Leave (Inner (AtDirective c.args.place k d))) ∷ []) ++ pending_events schema c.args.tasks.now) found_is)
    (c.in_ok-add.ensures ∙ (λ i. arguments_events schema (OfDirective (name_is i)) (arguments_are i) (c.arguments_in.ensures i) around ++ pending_events schema c.tell.new.tasks))
    (subst (λ k. OnOk c.tell-2.result (OpensEvents schema (seen_event around (Enter (Inner (AtDirective c.args.place k d))) ∷ []) c.add.new.tasks c.tell-2.new.tasks)) found_is c.tell-2.ensures)
