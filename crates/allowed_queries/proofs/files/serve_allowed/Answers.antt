use Rattle.std.proofs.Common.{sym}
use Rattle.graphql_file_service.proofs.Services.{ended}
use Rattle.allowed_queries.proofs.files.serve_allowed.Goals as goal

pub returns-clause-served : goal.returns-clause-served
returns-clause-served g c =
    rw (sym c.new-allowing.ensures.service, sym c.new-allowing.ensures.allowed)
    (c.serve.new.self.service.context, ended c.serve.result _ _ c.serve.ensures.served c.serve.ensures.ended)
