-- What a service tells of lines that are too long, where it is asked for plain texts.
use Rattle.std.specs.Prelude.{ℕ, ◌<◌, length}
use Rattle.graphql_names.specs.Names.{Bytes}
use Rattle.graphql_streams.specs.Lines.{kept_of}
use Rattle.graphql_streams.proofs.LineLemmas.{front-longer}
use Rattle.graphql_service.specs.AnsweredBy.{AnsweredBy}
use Rattle.graphql_service.specs.Answers.{Answerer, answerer_of}
use Rattle.graphql_service.specs.PlainAnswers.{IsPlainAnswer, PlainOfLines, asks_nothing, not_plain}
use Rattle.graphql_service.specs.PlainAnswers.{plain_to}
use Rattle.graphql_service.specs.Serving.{still-no_request}
use Rattle.graphql_service.specs.declared.plain_lines.PlainLines.{PlainLines}
use Rattle.graphql_service.specs.declared.service.Service.{Service}

module _ {S C N X : Type 0} (a : Answerer S C N X) (line : Bytes) (longer : a.limit < length line)
    (size_limit : ℕ) where
  long-plain : (text : Bytes) → IsPlainAnswer a size_limit (kept_of a.limit line) text
      → IsPlainAnswer a size_limit line text
  long-plain text (asks_nothing refusal h e) =
      asks_nothing refusal (still-no_request a line longer refusal h) e
  long-plain text (not_plain why h e) = absurd (front-longer a.limit line longer h.asks.within)
  long-plain text (plain_to plain h e) = absurd (front-longer a.limit line longer h.asks.within)

module _ {S C N X R : Type 0} (answering : AnsweredBy S C N X R) where
  pub plain-kept : (old : PlainLines S R X C) (line text : Bytes) (new : PlainLines S R X C)
      → old.service.now.line_limit < length line
      → PlainOfLines answering old (kept_of old.service.now.line_limit line) text new
      → PlainOfLines answering old line text new
  plain-kept old line text new longer (h, same) =
      let service : Service S R X C = old.service.now in (
        record {
          answer =
              long-plain (answerer_of answering service) line longer
              service.selection_limit text h.answer;
          one_line = h.one_line;
          distinct = h.distinct;
        },
        same,
      )
