use Rattle.std.proofs.Common.{◌≡◌, ◌∷◌, [], ◌++◌}
use Rattle.std.proofs.lemmas.Result.{on_ok_weaker}
use Rattle.graphql_schema.specs.Declarations.{declarations_of}
use Rattle.graphql_document_walk.specs.Pending.{OpensEvents, task_events}
use Rattle.graphql_document_walk.specs.declared.walk.tasks.Task.{Task}
use Rattle.graphql_document_walk.specs.declared.walk.tasks.Work.TheVariants as work
use Rattle.graphql_document_walk.proofs.PendingLemmas.{parts_with, pending_with}
use Rattle.graphql_document_walk.proofs.walk.tasks.tell.Goals as goal

pub returns : goal.returns
returns g c =
    let schema = declarations_of c.args.schema.now in
    let old = c.args.tasks.now in
    let new = c.put.new.items in
    let task : Task _ _ = record { around = c.args.around; work = work.Tell c.args.side c.args.node } in
    let opens : new ≡ old ++ task ∷ [] → OpensEvents schema (task_events schema task) old new =
    λ is. (pending_with schema old new task is, parts_with old new task is) in
    on_ok_weaker c.put.result opens c.put.ensures
