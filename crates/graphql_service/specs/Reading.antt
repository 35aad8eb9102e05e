-- What a line asks, once it is read (GraphQL October 2021, 6.1 Executing Requests).
use Rattle.std.specs.Prelude.{◌≡◌}
use Rattle.std.specs.HashMap.{get_by_text}
use Rattle.graphql_names.specs.Names.{Bytes}
use Rattle.graphql_executor.specs.Answered.{IsExecutable}
use Rattle.graphql_lines.specs.Request.{Request}
use Rattle.graphql_service.specs.Answers.{Answerer, Asks, asked_by, given}
use Rattle.graphql_service.specs.declared.accepted.AcceptedRequest.{AcceptedRequest}

-- the line asks a request, of which this operation of this document is executed over these values
pub record Executes {S C N X : Type 0} (a : Answerer S C N X) (line : Bytes)
    (accepted : AcceptedRequest S) : Type 0 where
  pub request : Request
  pub asks : Asks a line request
  pub executable : IsExecutable a.scalars (asked_by a line request)
      accepted.document.now accepted.operation.now
  pub values : get_by_text accepted.variables.now ≡ given a.scalars request
