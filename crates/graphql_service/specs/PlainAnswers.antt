-- What a line is told of its plain text (GraphQL October 2021, 6.1 Executing Requests).
use Rattle.std.specs.Prelude.{◌≡◌, ℕ}
use Rattle.graphql_names.specs.Names.{Bytes}
use Rattle.graphql_lines.specs.Request.{Request}
use Rattle.graphql_lines.specs.declared.refusal.LineRefusal.{LineRefusal}
use Rattle.graphql_answers.specs.Lines.{IsLine, line_of}
use Rattle.graphql_answers.specs.Responses.{plain_answer_of, refusal_response}
use Rattle.graphql_service.specs.AnsweredBy.{AnsweredBy}
use Rattle.graphql_service.specs.PlainRequests.{HasNoPlainText, IsPlainTextWithin, PlainError}
use Rattle.graphql_service.specs.PlainRequests as error
use Rattle.graphql_service.specs.Answers.{Answerer, Asks, IsNoRequest, answerer_of, asked_by}
use Rattle.graphql_service.specs.Laws.{IsLineOfDistinctKeys}
use Rattle.graphql_service.specs.Texts.{told_of_line, told_of_plain}
use Rattle.graphql_service.specs.declared.plain_lines.PlainLines.{PlainLines}
use Rattle.graphql_service.specs.declared.service.Service.{Service}

-- by what a service answers, and by the greatest size of a plain text, in fields and inline
-- fragments
module _ {S C N X : Type 0} (a : Answerer S C N X) (size_limit : ℕ) where
  module _ (line : Bytes) where
    -- the line asks for a request with this plain text
    pub record HasPlain (plain : Bytes) : Type 0 where
      pub request : Request
      pub asks : Asks a line request
      pub is : IsPlainTextWithin a.scalars (asked_by a line request) size_limit plain

    -- why the request that the line asks has none: the first step that fails, or else its size
    pub record HasNoPlain (why : PlainError) : Type 0 where
      pub request : Request
      pub asks : Asks a line request
      pub is_told : why ≡ error.Memory → ⊥
      pub due : HasNoPlainText a.scalars (asked_by a line request) a.by_rules size_limit why

    -- the answer line: of the refusal that is due, or of the plain text
    pub data IsPlainAnswer (answered : Bytes) : Type 0 where
      asks_nothing : (refusal : LineRefusal) → IsNoRequest a line refusal
          → answered ≡ line_of (refusal_response (told_of_line a.limit refusal))
          → IsPlainAnswer answered
      not_plain : (why : PlainError) → HasNoPlain why
          → answered ≡ line_of (refusal_response (told_of_plain size_limit why))
          → IsPlainAnswer answered
      plain_to : (plain : Bytes) → HasPlain plain → answered ≡ line_of (plain_answer_of plain)
          → IsPlainAnswer answered

    -- the answer is one line of JSON with distinct keys
    pub record AnswersPlain (text : Bytes) : Type 0 where
      pub answer : IsPlainAnswer text
      pub one_line : IsLine text
      pub distinct : IsLineOfDistinctKeys text

  -- one line after another: nothing changes, whatever comes
  abbrev pub PlainGives : Unit {0} → Bytes → Bytes → Unit {0} → Type 0
  PlainGives before line text after = AnswersPlain line text

  abbrev pub PlainBreaks : Unit {0} → Bytes → Unit {0} → Type 0
  PlainBreaks before line after = Unit {0}

-- the same of what gives the plain texts of a service
module _ {S C N X R : Type 0} (answering : AnsweredBy S C N X R) where
  abbrev pub PlainOfLines : PlainLines S R X C → Bytes → Bytes → PlainLines S R X C → Type 0
  PlainOfLines old line text new =
      let service : Service S R X C = old.service.now in
      AnswersPlain (answerer_of answering service) service.selection_limit line text
      × (new.service.now ≡ service)
