-- What a service answers lines, one after another.
use Rattle.std.specs.Prelude.{◌<◌, length}
use Rattle.std.proofs.Common.{inl, inr}
use Rattle.graphql_names.specs.Names.{Bytes}
use Rattle.graphql_streams.specs.Lines.{kept_of}
use Rattle.graphql_streams.proofs.LineLemmas.{front-longer}
use Rattle.graphql_lines.specs.declared.refusal.LineRefusal.{LineRefusal}
use Rattle.graphql_lines.specs.declared.refusal.LineRefusal.TheVariants.{LineTooLong, NotARequest}
use Rattle.graphql_lines.specs.declared.refusal.LineRefusal.TheVariants.{BadNumber, Memory}
use Rattle.graphql_answers.specs.Lines.{IsLine}
use Rattle.graphql_service.specs.AnsweredBy.{AnsweredBy}
use Rattle.graphql_service.specs.Answers.{Answerer, IsAnswer, IsNoRequest, LeavesBroken}
use Rattle.graphql_service.specs.Answers.{answerer_of, executed_to, no_request, not_executed}
use Rattle.graphql_service.specs.Laws.{IsLineOfDistinctKeys}
use Rattle.graphql_service.specs.Made.{IsOf}
use Rattle.graphql_service.specs.declared.service.Service.{Service}

module _ {S C N X : Type 0} (a : Answerer S C N X) where
  -- on this context the line is given its answer, one line of JSON with distinct keys, and leaves
  -- that context
  pub record AnswersLine (old : X) (line text : Bytes) (new : X) : Type 0 where
    pub answer : IsAnswer a line old text new
    pub one_line : IsLine text
    pub distinct : IsLineOfDistinctKeys text

  -- on this context want of memory at the line leaves that context
  abbrev pub BreaksAtLine : X → Bytes → X → Type 0
  BreaksAtLine old line new = LeavesBroken a line old new

-- the same service, but for its context
abbrev pub HasPartsOf : {S R X C : Type 0} → Service S R X C → Service S R X C → Type 0
HasPartsOf old new =
    IsOf old.root_node old.resolver new.context old.line_limit old.selection_limit new

-- the same of a service: of its parts the context alone changes
module _ {S C N X R : Type 0} (answering : AnsweredBy S C N X R) where
  abbrev pub ServiceAnswers : Service S R X C → Bytes → Bytes → Service S R X C → Type 0
  ServiceAnswers old line text new =
      AnswersLine (answerer_of answering old) old.context line text new.context × HasPartsOf old new

  abbrev pub ServiceBreaks : Service S R X C → Bytes → Service S R X C → Type 0
  ServiceBreaks old line new =
      BreaksAtLine (answerer_of answering old) old.context line new.context × HasPartsOf old new

-- a line that is too long is refused, whatever stands in it
module _ {S C N X : Type 0} (a : Answerer S C N X) (line : Bytes)
    (longer : a.limit < length line) where
  pub still-no_request : (refusal : LineRefusal) → IsNoRequest a (kept_of a.limit line) refusal
      → IsNoRequest a line refusal
  still-no_request LineTooLong h = longer
  still-no_request NotARequest h = absurd (front-longer a.limit line longer h.0)
  still-no_request BadNumber h = absurd (front-longer a.limit line longer h.1)
  still-no_request Memory h = h

  long-answer : (old new : X) (text : Bytes) → IsAnswer a (kept_of a.limit line) old text new
      → IsAnswer a line old text new
  long-answer old new text (no_request refusal h e kept) =
      no_request refusal (still-no_request refusal h) e kept
  long-answer old new text (not_executed refusal h e kept) =
      absurd (front-longer a.limit line longer h.asks.within)
  long-answer old new text (executed_to found errors h e) =
      absurd (front-longer a.limit line longer h.asks.within)

  long-broken : (old new : X) → LeavesBroken a (kept_of a.limit line) old new
      → LeavesBroken a line old new
  long-broken old new (inl same) = inl same
  long-broken old new (inr broken) = absurd (front-longer a.limit line longer broken.asks.within)

module _ {S C N X R : Type 0} (answering : AnsweredBy S C N X R) where
  pub answers-kept : (old : Service S R X C) (line text : Bytes) (new : Service S R X C)
      → old.line_limit < length line
      → ServiceAnswers answering old (kept_of old.line_limit line) text new
      → ServiceAnswers answering old line text new
  answers-kept old line text new longer (h, parts) = (
    record {
      answer =
          long-answer (answerer_of answering old) line longer old.context new.context text h.answer;
      one_line = h.one_line;
      distinct = h.distinct;
    },
    parts,
  )

  pub breaks-kept : (old : Service S R X C) (line : Bytes) (new : Service S R X C)
      → old.line_limit < length line
      → ServiceBreaks answering old (kept_of old.line_limit line) new
      → ServiceBreaks answering old line new
  breaks-kept old line new longer (h, parts) = (
    long-broken (answerer_of answering old) line longer old.context new.context h,
    parts,
  )
