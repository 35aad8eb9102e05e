-- What is answered to lines, one after another, where a store decides what is allowed.
use Rattle.std.specs.Prelude.{◌≡◌, ◌<◌, ℕ, length}
use Rattle.std.proofs.Common.{inl, inr}
use Rattle.graphql_names.specs.Names.{Bytes}
use Rattle.graphql_streams.specs.Lines.{kept_of}
use Rattle.graphql_streams.proofs.LineLemmas.{front-longer}
use Rattle.graphql_stores.specs.declared.allowed_queries.AllowedQueries.{AllowedQueries}
use Rattle.graphql_service.specs.AnsweredBy.{AnsweredBy}
use Rattle.graphql_service.specs.Answers.{Answerer, IsAnswer, answerer_of, executed_to, no_request}
use Rattle.graphql_service.specs.Answers.{not_executed}
use Rattle.graphql_service.specs.Serving.{HasPartsOf, still-no_request}
use Rattle.graphql_stores.specs.Allowing.{AnswersIfAllowed, BreaksIfAllowed, IsAnswerIfAllowed}
use Rattle.graphql_stores.specs.Allowing.{not_allowed, refused_first, served}
use Rattle.graphql_stores.specs.Stored.{IsRefusedFirst}
use Rattle.graphql_stores.specs.Stored as first
use Rattle.graphql_stores.specs.declared.allowing_service.AllowingService.{AllowingService}

-- the same service, but for its context, with the same store
pub record KeepsParts {S R X C : Type 0} (old new : AllowingService S R X C) : Type 0 where
  pub service : HasPartsOf old.service new.service
  pub allowed : new.allowed ≡ old.allowed

module _ {S C N X R : Type 0} (answering : AnsweredBy S C N X R) where
  abbrev pub AllowingAnswers : AllowingService S R X C → Bytes → Bytes → AllowingService S R X C
      → Type 0
  AllowingAnswers old line text new =
      AnswersIfAllowed (answerer_of answering old.service)
      old.service.selection_limit old.allowed old.service.context line text new.service.context
      × KeepsParts old new

  abbrev pub AllowingBreaks : AllowingService S R X C → Bytes → AllowingService S R X C → Type 0
  AllowingBreaks old line new =
      BreaksIfAllowed (answerer_of answering old.service)
      old.service.selection_limit old.allowed old.service.context line new.service.context
      × KeepsParts old new

-- a line that is too long is refused, whatever stands in it
module _ {S C N X : Type 0} (a : Answerer S C N X) (size_limit : ℕ) (store : AllowedQueries)
    (line : Bytes)
    (longer : a.limit < length line) where
  still-refused : IsRefusedFirst a size_limit (kept_of a.limit line)
      → IsRefusedFirst a size_limit line
  still-refused (first.no_request refusal h) =
      first.no_request refusal (still-no_request a line longer refusal h)
  still-refused (first.no_plain why h) = absurd (front-longer a.limit line longer h.asks.within)

  still-answer : (old new : X) (text : Bytes) → IsAnswer a (kept_of a.limit line) old text new
      → IsAnswer a line old text new
  still-answer old new text (no_request refusal h e kept) =
      no_request refusal (still-no_request a line longer refusal h) e kept
  still-answer old new text (not_executed refusal h e kept) =
      absurd (front-longer a.limit line longer h.asks.within)
  still-answer old new text (executed_to found errors h e) =
      absurd (front-longer a.limit line longer h.asks.within)

  long-answer : (old new : X) (text : Bytes)
      → IsAnswerIfAllowed a size_limit store (kept_of a.limit line) old text new
      → IsAnswerIfAllowed a size_limit store line old text new
  long-answer old new text (served h answer) =
      absurd (front-longer a.limit line longer h.asks.within)
  long-answer old new text (refused_first h answer kept) =
      refused_first (still-refused h) (still-answer old new text answer) kept
  long-answer old new text (not_allowed (inl h) e kept) =
      absurd (front-longer a.limit line longer h.1.asks.within)
  long-answer old new text (not_allowed (inr h) e kept) =
      absurd (front-longer a.limit line longer h.asks.within)

  long-broken : (old new : X) → BreaksIfAllowed a size_limit store old (kept_of a.limit line) new
      → BreaksIfAllowed a size_limit store old line new
  long-broken old new (inl same) = inl same
  long-broken old new (inr h) = absurd (front-longer a.limit line longer h.0.asks.within)

module _ {S C N X R : Type 0} (answering : AnsweredBy S C N X R) where
  pub allowing-kept : (old : AllowingService S R X C) (line text : Bytes)
      (new : AllowingService S R X C)
      → old.service.line_limit < length line
      → AllowingAnswers answering old (kept_of old.service.line_limit line) text new
      → AllowingAnswers answering old line text new
  allowing-kept old line text new longer (h, parts) = (
    record {
      answer =
          long-answer (answerer_of answering old.service) old.service.selection_limit old.allowed
          line longer old.service.context new.service.context text h.answer;
      one_line = h.one_line;
      distinct = h.distinct;
    },
    parts,
  )

  pub allowing-breaks-kept : (old : AllowingService S R X C) (line : Bytes)
      (new : AllowingService S R X C)
      → old.service.line_limit < length line
      → AllowingBreaks answering old (kept_of old.service.line_limit line) new
      → AllowingBreaks answering old line new
  allowing-breaks-kept old line new longer (h, parts) = (
    long-broken (answerer_of answering old.service) old.service.selection_limit old.allowed line
        longer old.service.context new.service.context h,
    parts,
  )
