use Rattle.std.proofs.Common.{◌++◌, ◌∷◌, ap, sym, ◌∙◌}
use Rattle.graphql_schema.specs.Declarations.{declarations_of}
use Rattle.graphql_occurrences.specs.Events.{seen_event}
use Rattle.graphql_occurrences.specs.Lent.{around_of}
use Rattle.graphql_document_walk.specs.Pending.{part_after, parts_on_top, pending_events, work_events}
use Rattle.graphql_document_walk.proofs.PendingLemmas.{fewer_parts, parts_with, pending_with}
use Rattle.graphql_document_walk.proofs.walk.Walk.next.Goals as goal

pub returns-in-Tell : goal.returns-in-Tell
returns-in-Tell g c =
    let schema = declarations_of c.tasks.self.schema.now in
    let task = c.in-Some.task in
    let popped = c.pop.new.self in
    record {
      schema = c.tasks.invariant.0;
      events = sym c.tasks.invariant.1
          ∙ pending_with schema popped c.tasks.self.tasks task c.in-Some.ensures
          ∙ ap (λ w. work_events schema w (around_of task.around) ++ pending_events schema popped) c.in-Tell.is
          ∙ ap (λ e. seen_event (around_of task.around) e ∷ pending_events schema popped) (sym c.event.ensures);
    }

pub tasks-preserved : goal.tasks-preserved
tasks-preserved g c =
    let schema = declarations_of c.tasks.self.schema.now in
    let task = c.in-Some.task in
    let popped = c.pop.new.self in (
      c.tasks.invariant.0,
      c.in_ok-open-in-Through.ensures.0
          ∙ sym (pending_with schema popped c.tasks.self.tasks task c.in-Some.ensures ∙ ap (λ w. work_events schema w (around_of task.around) ++ pending_events schema popped) c.in-Through.is)
          ∙ c.tasks.invariant.1,
    )

pub tasks-smaller : goal.tasks-smaller
tasks-smaller g c =
    let popped = c.pop.new.self in
    fewer_parts c.tasks.self.tasks popped c.open.new.tasks
    (parts_with popped c.tasks.self.tasks c.in-Some.task c.in-Some.ensures ∙ ap (part_after (parts_on_top popped)) c.in-Through.is)
    c.in_ok-open-in-Through.ensures.1
