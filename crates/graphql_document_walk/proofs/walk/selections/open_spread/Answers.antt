use Rattle.std.proofs.Common.{◌++◌, refl, ap, ◌∙◌}
use Rattle.std.specs.Prelude.{[], unwrap_or}
use Rattle.graphql_schema.specs.declared.directive_location.DirectiveLocation.TheVariants as location
use Rattle.graphql_schema.specs.Declarations.{declarations_of}
use Rattle.graphql_occurrences.specs.Events.{directives_events}
use Rattle.graphql_occurrences.specs.Lent.{around_of}
use Rattle.graphql_occurrences.specs.Nodes.{Inner, AtFragmentSpread, placed_as, spread_head}
use Rattle.graphql_document_walk.specs.Pending.{pending_events}
use Rattle.graphql_document_walk.proofs.PendingLemmas.{opens_node}
use Rattle.graphql_document_walk.proofs.walk.selections.open_spread.Goals as goal

pub returns : goal.returns
returns g c =
    let schema = declarations_of c.args.schema.now in
    let s = c.args.spread.now in
    let around = around_of c.args.around in
    opens_node schema c.tell-2.result (Inner (AtFragmentSpread (placed_as s (spread_head s.item)))) (directives_events schema location.FragmentSpread (unwrap_or s.item.directives [])) around around c.args.tasks.now c.add.new.tasks c.tell-2.new.tasks _ refl
    c.in_ok-tell.ensures.0
    (c.in_ok-add.ensures ∙ ap (λ ds. directives_events schema location.FragmentSpread ds around ++ pending_events schema c.tell.new.tasks) c.directives_in.ensures)
    c.tell-2.ensures
