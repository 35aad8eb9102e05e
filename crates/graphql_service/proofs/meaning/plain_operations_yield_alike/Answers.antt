use Rattle.graphql_service.proofs.PlainRuns.{plain-yields}
use Rattle.graphql_service.proofs.meaning.plain_operations_yield_alike.Goals as goal

pub returns : goal.returns
returns g c = plain-yields _ c.plain_runs_are_alike.ensures c.plain_document_is_plain.ensures
