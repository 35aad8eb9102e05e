use Rattle.std.proofs.Common.{◌++◌, ap, ◌∙◌, Some}
use Rattle.std.specs.Prelude.{[], unwrap_or}
use Rattle.graphql_schema.specs.declared.directive_location.DirectiveLocation.TheVariants as location
use Rattle.graphql_schema.specs.Declarations.{declarations_of}
use Rattle.graphql_occurrences.specs.Lookups.{bare_place}
use Rattle.graphql_occurrences.specs.Events.{asked, directives_events, default_events}
use Rattle.graphql_occurrences.specs.Lent.{around_of}
use Rattle.graphql_occurrences.specs.Nodes.{Inner, AtVariableDefinition}
use Rattle.graphql_document_walk.specs.Pending.{pending_events}
use Rattle.graphql_document_walk.proofs.PendingLemmas.{opens_node, adds_then}
use Rattle.graphql_document_walk.proofs.walk.definitions.open_variable.Goals as goal

pub returns : goal.returns
returns g c =
    let schema = declarations_of c.args.schema.now in
    let v = c.args.variable.now in
    let around = around_of c.args.around in
    let inside = around_of c.asking-inside.result in
    let inside_is = c.asking-inside.ensures ∙ ap (λ p. asked around (Some p)) c.bare-place.ensures ∙ ap (λ t. asked around (Some (bare_place t))) c.of_document.ensures in
    let with_directives = c.in_ok-add.ensures ∙ ap (λ ds. directives_events schema location.VariableDefinition ds inside ++ pending_events schema c.tell.new.tasks) c.directives_in.ensures in
    opens_node schema c.tell-2.result (Inner (AtVariableDefinition v)) (λ r. default_events schema v.1.default_value r ++ directives_events schema location.VariableDefinition (unwrap_or v.1.directives []) r) _ _ c.args.tasks.now c.add_default.new.tasks c.tell-2.new.tasks _ inside_is
    c.in_ok-tell.ensures.0 (adds_then _ _ _ _ _ with_directives c.in_ok-add_default.ensures) c.tell-2.ensures
