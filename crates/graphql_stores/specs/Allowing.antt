-- What is answered to a line where a store decides what is allowed (GraphQL October 2021,
-- 6.1 Executing Requests).
use Rattle.std.specs.Prelude.{◌≡◌, ◌⊎◌, true, false, ℕ, Bool, List, [], codes}
use Rattle.graphql_names.specs.Names.{Bytes}
use Rattle.graphql_stores.specs.Stores.{is_allowed}
use Rattle.graphql_stores.specs.declared.allowed_queries.AllowedQueries.{AllowedQueries}
use Rattle.graphql_answers.specs.Lines.{IsLine, line_of}
use Rattle.graphql_answers.specs.Responses.{refusal_response}
use Rattle.graphql_lines.specs.Request.{Request}
use Rattle.graphql_rule_errors.specs.declared.rule_error.RuleError.{RuleError}
use Rattle.graphql_service.specs.Answers.{Answerer, Asks, IsAnswer, LeavesBroken, asked_by}
use Rattle.graphql_service.specs.Laws.{IsLineOfDistinctKeys}
use Rattle.graphql_service.specs.PlainAnswers.{HasNoPlain, HasPlain}
use Rattle.graphql_service.specs.PlainRequests.{TooLarge}
use Rattle.graphql_service.specs.Texts.{said_at}
use Rattle.graphql_stores.specs.Allowed.{IsAllowed}
use Rattle.graphql_stores.specs.Stored.{IsRefusedFirst}

abbrev pub not_allowed_error : List RuleError
not_allowed_error = said_at [] (codes "Query is not allowed")

abbrev pub not_allowed_line : Bytes
not_allowed_line = line_of (refusal_response not_allowed_error)

-- by what a service answers, the greatest size of a plain text, and a store
module _ {S C N X : Type 0} (a : Answerer S C N X) (size_limit : ℕ) (store : AllowedQueries) where
  module _ (line : Bytes) where
    -- the line asks for a request that the store allows
    pub record AsksAllowed : Type 0 where
      pub request : Request
      pub asks : Asks a line request
      pub allowed : IsAllowed a.scalars store size_limit (asked_by a line request)

    -- the line asks for a request whose plain text is not in the store, or is larger than the limit
    abbrev pub AsksOther : Type 0
    AsksOther =
        ((plain : Bytes) × HasPlain a size_limit line plain × (is_allowed store plain ≡ false))
        ⊎ HasNoPlain a size_limit line TooLarge

    -- the service answers the line: it asks for what is allowed, or is refused before that is asked
    abbrev pub Passes : Bool → Type 0
    Passes true = AsksAllowed ⊎ IsRefusedFirst a size_limit line
    Passes false = AsksOther

    -- the answer line: the service's where the store allows what is asked; else, with the context
    -- as it was, its refusal on the way to a plain text, or that the query is not allowed
    pub data IsAnswerIfAllowed (old : X) (answered : Bytes) (new : X) : Type 0 where
      served : AsksAllowed → IsAnswer a line old answered new → IsAnswerIfAllowed old answered new
      refused_first : IsRefusedFirst a size_limit line → IsAnswer a line old answered new
          → new ≡ old
          → IsAnswerIfAllowed old answered new
      not_allowed : AsksOther → answered ≡ not_allowed_line → new ≡ old
          → IsAnswerIfAllowed old answered new

  -- on this context the line is given its answer, one line of JSON with distinct keys, and leaves
  -- that context
  pub record AnswersIfAllowed (old : X) (line text : Bytes) (new : X) : Type 0 where
    pub answer : IsAnswerIfAllowed line old text new
    pub one_line : IsLine text
    pub distinct : IsLineOfDistinctKeys text

  -- on this context want of memory at the line leaves that context: as it was, or where the store
  -- allows what is asked, as the service leaves it
  abbrev pub BreaksIfAllowed : X → Bytes → X → Type 0
  BreaksIfAllowed old line new = (new ≡ old) ⊎ (AsksAllowed line × LeavesBroken a line old new)
