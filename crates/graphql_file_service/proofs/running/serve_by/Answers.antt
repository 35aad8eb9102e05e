use Rattle.std.proofs.Common.{refl}
use Rattle.graphql_file_service.proofs.Services.{ended}
use Rattle.graphql_file_service.proofs.running.serve_by.Goals as goal

pub returns-then-plain-clause-served : goal.returns-then-plain-clause-served
returns-then-plain-clause-served g c =
    rw c.if-plain.true (ended c.serve_plain.result _ _ c.serve_plain.ensures.served c.serve_plain.ensures.ended, refl)

pub returns-else-plain-clause-served : goal.returns-else-plain-clause-served
returns-else-plain-clause-served g c =
    rw c.if-plain.false (ended c.serve.result _ _ c.serve.ensures.served c.serve.ensures.ended)
