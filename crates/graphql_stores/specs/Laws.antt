-- What is kept for a plain text is the answer of each line that asks for it
-- (GraphQL October 2021, 6.1 Executing Requests, 7.1 Response Format).
use Rattle.std.specs.List.{starts_with}
use Rattle.std.specs.Prelude.{◌≡◌, true, false, ℕ, List, [], Some, codes, nat_eq}
use Rattle.std.specs.Str.{IsUtf8}
use Rattle.graphql_names.specs.Names.{Bytes}
use Rattle.graphql_output_values.specs.declared.value.Value.{Value}
use Rattle.graphql_lines.specs.Request.{request_of}
use Rattle.graphql_answers.specs.Lines.{line_of}
use Rattle.graphql_answers.specs.Responses.{response_of}
use Rattle.graphql_plain_print.specs.NameSets.{AreSame}
use Rattle.graphql_plain_requests.specs.AcceptedAgain.{used_by}
use Rattle.graphql_service.specs.AnsweredBy.{AnsweredBy}
use Rattle.graphql_service.specs.Answers.{Answerer, IsAnswer, IsExecuted, answerer_of, given}
use Rattle.graphql_service.specs.PlainAnswers.{HasPlain}
use Rattle.graphql_service.specs.PlainRequests.{TakesStandIn}
use Rattle.graphql_service.specs.declared.service.Service.{Service}
use Rattle.graphql_stores.specs.AnswerEnds.{begins_with_data, ends_with_list}
use Rattle.graphql_stores.specs.Stored.{with_query}
use Rattle.graphql_stores.specs.StoredAnswers.{IsWholeAnswer}

-- by what a service answers, and by the greatest size of a plain text
module _ {S C N X : Type 0} (a : Answerer S C N X) (size_limit : ℕ) where
  -- the line asks for a request with this plain text, which uses the variables of these names
  pub record HasPlainUsing (line plain : Bytes) (names : List Bytes) : Type 0 where
    pub has : HasPlain a size_limit line plain
    pub uses : AreSame names (used_by a.scalars (given a.scalars has.request)
        has.is.plain.document has.is.plain.operation.item)

module _ {S C N X R : Type 0} (answering : AnsweredBy S C N X R) (service : Service S R X C) where
  abbrev answerer : Answerer S C N X
  answerer = answerer_of answering service

  -- a line that asks for a plain text, and the line of that plain text with the same operation name
  -- and the same values for the variables that the plain text uses
  pub record IsSharedWith (line other plain : Bytes) : Type 0 where
    -- the names of those variables
    pub names : List Bytes
    pub has : HasPlainUsing answerer service.selection_limit line plain names
    pub utf8 : IsUtf8 has.has.request.query
    pub asked : request_of other ≡ Some (with_query has.has.request plain names)

  -- what is answered to the one, without errors, is the answer of the other on that context
  abbrev pub AnswersAreShared : Type 0
  AnswersAreShared =
      TakesStandIn answering.scalars service.root_node.schema
      → (line other plain text : Bytes) (context : X) → IsSharedWith line other plain
      → (IsWholeAnswer answerer context other text → IsAnswer answerer line context text context)
      × (IsWholeAnswer answerer context line text → IsWholeAnswer answerer context other text)

  -- the line asks for a query, and the other one is the line of its plain text
  pub record SharesQuery (line other : Bytes) : Type 0 where
    pub plain : Bytes
    pub begins : starts_with nat_eq plain (codes "query") ≡ true
    pub shared : IsSharedWith line other plain

module _ {S C N X : Type 0} (a : Answerer S C N X) where
  -- an answer line that does not begin with data is that of a refusal, which leaves the context;
  -- one that does, and does not end with the end of a list, is that of data without errors
  abbrev pub AnswersShowErrors : Type 0
  AnswersShowErrors =
      (line text : Bytes) (old new : X) → IsAnswer a line old text new
      → (begins_with_data text ≡ false → new ≡ old)
      × (begins_with_data text ≡ true → ends_with_list text ≡ false
      → (found : Value S) × IsExecuted a line old found [] new
      × (text ≡ line_of (response_of a.scalars.answer found [])))

  -- a line whose plain text begins with the word `query` leaves the context
  abbrev pub QueriesLeaveTheContext : Type 0
  QueriesLeaveTheContext =
      (size_limit : ℕ) (line plain text : Bytes) (old new : X)
      → HasPlain a size_limit line plain → starts_with nat_eq plain (codes "query") ≡ true
      → IsAnswer a line old text new → new ≡ old
