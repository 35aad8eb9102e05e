-- What is read of a line for which no answer is kept (GraphQL October 2021, 6.1 Executing
-- Requests).
use Rattle.std.specs.Prelude.{List, string_bytes}
use Rattle.std.specs.HashMap.{get_by_text}
use Rattle.std.specs.Option.{option_map}
use Rattle.std.specs.Str.{chars}
use Rattle.graphql_names.specs.Names.{Bytes}
use Rattle.graphql_lexer.specs.Records.{IsRecorded, Recorded}
use Rattle.graphql_tree.specs.Definitions.{fragments_listed}
use Rattle.graphql_tree.specs.declared.document.Definition.{Definition}
use Rattle.graphql_written_out.specs.Written.{Settled}
use Rattle.graphql_executor.specs.Answered.{Asking, ReadsValid, asking}
use Rattle.graphql_lines.specs.Request.{HoldsRequest, Request}
use Rattle.graphql_lines.specs.declared.request.GraphQLRequest.{GraphQLRequest}
use Rattle.graphql_service.specs.Answers.{Answerer, Asks}
use Rattle.graphql_service.specs.Reading.{Executes}
use Rattle.graphql_service.specs.declared.accepted.AcceptedRequest.{AcceptedRequest}

-- by what a service answers
module _ {S C N X : Type 0} (a : Answerer S C N X) where
  -- what a request asks of the schema
  abbrev pub asking_of : GraphQLRequest S → Asking S C
  asking_of request =
      asking a.schema a.introspection_disabled (chars (string_bytes request.query))
      (option_map (λ name. string_bytes name) request.operation_name)
      (get_by_text request.variables)

  module _ (line : Bytes) where
    -- the line asks this request
    pub record AsksRequest (request : GraphQLRequest S) : Type 0 where
      pub asked : Request
      pub asks : Asks a line asked
      pub holds : HoldsRequest a.scalars.of_bool a.scalars.of_int a.scalars.of_text asked request

    -- and of these tokens of its text this document is read, which is valid
    pub record ReadsDocument (request : GraphQLRequest S) (records : Recorded)
        (document : List (Definition S)) : Type 0 where
      pub asks : AsksRequest request
      pub recorded : IsRecorded (chars (string_bytes request.query)) records
      pub read : ReadsValid a.scalars (asking_of request) document

    -- it asks a request that is accepted, the spreads of whose document end
    pub record AsksAccepted (accepted : AcceptedRequest S) : Type 0 where
      pub executes : Executes a line accepted
      pub settled : Settled (fragments_listed accepted.document.now)

    -- and these are the tokens of its text
    pub record ReadsAccepted (accepted : AcceptedRequest S) (records : Recorded) : Type 0 where
      pub asks : AsksAccepted accepted
      pub recorded : IsRecorded (chars asks.executes.request.query) records
