use Rattle.std.proofs.lemmas.Result.{on_ok_weaker}
use Rattle.graphql_schema.specs.Declarations.{declarations_of}
use Rattle.graphql_document_walk.proofs.PendingLemmas.{pending_with}
use Rattle.graphql_document_walk.proofs.walk.tasks.add.Goals as goal

pub returns : goal.returns
returns g c = on_ok_weaker c.put.result (pending_with (declarations_of c.args.schema.now) c.args.tasks.now c.put.new.items _) c.put.ensures
