-- Answers that are kept (GraphQL October 2021, 6.1 Executing Requests, 7.1 Response Format).
use Rattle.std.specs.Prelude.{◌≡◌, [], Some}
use Rattle.graphql_names.specs.Names.{Bytes}
use Rattle.graphql_output_values.specs.declared.value.Value.{Value}
use Rattle.graphql_executor.specs.Answered.{IsAnswered}
use Rattle.graphql_lines.specs.Request.{Request, request_of}
use Rattle.graphql_answers.specs.Lines.{line_of}
use Rattle.graphql_answers.specs.Responses.{response_of}
use Rattle.graphql_service.specs.Answers.{Answerer, IsAnswer, asked_by}
use Rattle.graphql_stores.specs.Keeping.{IsKept}
use Rattle.graphql_stores.specs.declared.kept_texts.KeptTexts.{KeptTexts}

-- by what a service answers, on a context
module _ {S C N X : Type 0} (a : Answerer S C N X) (context : X) where
  -- the line asks a request that is answered so, without errors, and leaves the context; it may be
  -- longer than a service takes lines
  pub record IsWholeAnswer (line text : Bytes) : Type 0 where
    pub request : Request
    pub asked : request_of line ≡ Some request
    pub found : Value S
    pub answers : IsAnswered a.scalars (asked_by a line request) a.resolver a.by_fields
        context found [] context
    pub is : text ≡ line_of (response_of a.scalars.answer found [])

  -- what is kept for a line is what the service answers to it, on this context, which it leaves
  abbrev pub AreAnswers : KeptTexts → Type 0
  AreAnswers kept =
      (line text : Bytes) → IsKept kept line text → IsAnswer a line context text context

  -- what is kept for the line of a plain text is its answer, without errors
  abbrev pub AreWholeAnswers : KeptTexts → Type 0
  AreWholeAnswers kept = (line text : Bytes) → IsKept kept line text → IsWholeAnswer line text
