use Rattle.std.proofs.Common.{OnOk, sym, subst}
use Rattle.graphql_schema.specs.Declarations.{declarations_of}
use Rattle.graphql_occurrences.specs.Lent.{around_of}
use Rattle.graphql_document_walk.specs.Pending.{OpensAny, part_events}
use Rattle.graphql_document_walk.proofs.PendingLemmas.{opens_any}
use Rattle.graphql_document_walk.proofs.walk.open.Goals as goal

pub returns-in-Document : goal.returns-in-Document
returns-in-Document g c =
    subst (λ p. OnOk c.open_document.result (OpensAny (declarations_of c.args.schema.now) (part_events (declarations_of c.args.schema.now) p (around_of c.args.around)) c.args.tasks.now c.open_document.new.tasks)) (sym c.in-Document.is) (opens_any (declarations_of c.args.schema.now) c.open_document.result _ c.args.tasks.now c.open_document.new.tasks c.open_document.ensures)

pub returns-in-Definitions : goal.returns-in-Definitions
returns-in-Definitions g c =
    subst (λ p. OnOk c.open_definitions.result (OpensAny (declarations_of c.args.schema.now) (part_events (declarations_of c.args.schema.now) p (around_of c.args.around)) c.args.tasks.now c.open_definitions.new.tasks)) (sym c.in-Definitions.is) c.open_definitions.ensures

pub returns-in-Variables : goal.returns-in-Variables
returns-in-Variables g c =
    subst (λ p. OnOk c.open_variables.result (OpensAny (declarations_of c.args.schema.now) (part_events (declarations_of c.args.schema.now) p (around_of c.args.around)) c.args.tasks.now c.open_variables.new.tasks)) (sym c.in-Variables.is) c.open_variables.ensures

pub returns-in-Directives : goal.returns-in-Directives
returns-in-Directives g c =
    subst (λ p. OnOk c.open_directives.result (OpensAny (declarations_of c.args.schema.now) (part_events (declarations_of c.args.schema.now) p (around_of c.args.around)) c.args.tasks.now c.open_directives.new.tasks)) (sym c.in-Directives.is) c.open_directives.ensures

pub returns-in-Arguments : goal.returns-in-Arguments
returns-in-Arguments g c =
    subst (λ p. OnOk c.open_arguments.result (OpensAny (declarations_of c.args.schema.now) (part_events (declarations_of c.args.schema.now) p (around_of c.args.around)) c.args.tasks.now c.open_arguments.new.tasks)) (sym c.in-Arguments.is) c.open_arguments.ensures

pub returns-in-Set : goal.returns-in-Set
returns-in-Set g c =
    subst (λ p. OnOk c.open_set.result (OpensAny (declarations_of c.args.schema.now) (part_events (declarations_of c.args.schema.now) p (around_of c.args.around)) c.args.tasks.now c.open_set.new.tasks)) (sym c.in-Set.is) c.open_set.ensures

pub returns-in-Selections : goal.returns-in-Selections
returns-in-Selections g c =
    subst (λ p. OnOk c.open_selections.result (OpensAny (declarations_of c.args.schema.now) (part_events (declarations_of c.args.schema.now) p (around_of c.args.around)) c.args.tasks.now c.open_selections.new.tasks)) (sym c.in-Selections.is) c.open_selections.ensures

pub returns-in-Items : goal.returns-in-Items
returns-in-Items g c =
    subst (λ p. OnOk c.open_items.result (OpensAny (declarations_of c.args.schema.now) (part_events (declarations_of c.args.schema.now) p (around_of c.args.around)) c.args.tasks.now c.open_items.new.tasks)) (sym c.in-Items.is) c.open_items.ensures

pub returns-in-Pairs : goal.returns-in-Pairs
returns-in-Pairs g c =
    subst (λ p. OnOk c.open_pairs.result (OpensAny (declarations_of c.args.schema.now) (part_events (declarations_of c.args.schema.now) p (around_of c.args.around)) c.args.tasks.now c.open_pairs.new.tasks)) (sym c.in-Pairs.is) c.open_pairs.ensures

pub returns-in-Value : goal.returns-in-Value
returns-in-Value g c =
    subst (λ p. OnOk c.open_value.result (OpensAny (declarations_of c.args.schema.now) (part_events (declarations_of c.args.schema.now) p (around_of c.args.around)) c.args.tasks.now c.open_value.new.tasks)) (sym c.in-Value.is) (opens_any (declarations_of c.args.schema.now) c.open_value.result _ c.args.tasks.now c.open_value.new.tasks c.open_value.ensures)
