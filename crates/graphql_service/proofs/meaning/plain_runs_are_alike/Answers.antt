use Rattle.graphql_service.proofs.PlainRuns.{plain-runs}
use Rattle.graphql_service.proofs.meaning.plain_runs_are_alike.Goals as goal

pub returns : goal.returns
returns g c = plain-runs _ c.plain_documents_answer_alike.ensures
