-- What a service tells of lines, one after another, where it is asked for plain texts: it stays as it is.
use Rattle.std.proofs.Common.{◌≡◌, ◌∙◌, subst, Option, Result, OnOk}
use Rattle.std.specs.Prelude.{IfErr}
use Rattle.graphql_names.specs.Names.{Bytes}
use Rattle.graphql_streams.specs.Served.{Ends, ServedAll}
use Rattle.graphql_streams.specs.declared.serve_error.ServeError.{ServeError}
use Rattle.graphql_streams.proofs.ShownRuns.{all-shown_if, ends-shown_if}
use Rattle.graphql_service.specs.AnsweredBy.{AnsweredBy}
use Rattle.graphql_service.specs.Answers.{Answerer, answerer_of}
use Rattle.graphql_service.specs.PlainAnswers.{AnswersPlain, PlainBreaks, PlainGives, PlainOfLines}
use Rattle.graphql_service.specs.declared.plain_lines.PlainLines.{PlainLines}
use Rattle.graphql_service.specs.declared.service.Service.{Service}

module _ {S C N X R : Type 0} (answering : AnsweredBy S C N X R) (service : Service S R X C) where
  abbrev its_answerer : Service S R X C → Answerer S C N X
  its_answerer = answerer_of answering

  -- the same service is lent
  abbrev Lends : PlainLines S R X C → Type 0
  Lends lines = lines.service.now ≡ service

  abbrev Gives : PlainLines S R X C → Bytes → Bytes → PlainLines S R X C → Type 0
  Gives = PlainOfLines answering

  abbrev Breaks : PlainLines S R X C → Bytes → PlainLines S R X C → Type 0
  Breaks old line new = new.service.now ≡ old.service.now

  given : (old : PlainLines S R X C) (line text : Bytes) (new : PlainLines S R X C) → Lends old → Gives old line text new
      → PlainGives (its_answerer service) service.selection_limit tt line text tt × Lends new
  given old line text new lends h =
      (subst (λ (s : Service S R X C). AnswersPlain (its_answerer s) s.selection_limit line text) lends h.0, h.1 ∙ lends)

  broken : (old : PlainLines S R X C) (line : Bytes) (new : PlainLines S R X C) → Lends old → Breaks old line new
      → PlainBreaks (its_answerer service) service.selection_limit tt line tt × Lends new
  broken old line new lends h = (tt, h ∙ lends)

  module _ {A : Type 0} (result : Result A ServeError) (old new : PlainLines S R X C) (lends : Lends old)
      (left rest had has : Option Bytes) where
    pub serves-plain : OnOk result (ServedAll Gives old left rest had has new)
        → OnOk result (ServedAll (PlainGives (its_answerer service) service.selection_limit) tt left rest had has tt)
    serves-plain =
        all-shown_if (λ (lines : PlainLines S R X C). tt) Lends Gives (PlainGives (its_answerer service) service.selection_limit)
        given result old new left rest had has lends

    pub ends-plain : (failed : Type 0) → IfErr result (λ e. Ends Gives Breaks failed e old left rest had has new)
        → IfErr result (λ e. Ends (PlainGives (its_answerer service) service.selection_limit)
        (PlainBreaks (its_answerer service) service.selection_limit) failed e tt left rest had has tt)
    ends-plain failed =
        ends-shown_if (λ (lines : PlainLines S R X C). tt) Lends Gives (PlainGives (its_answerer service) service.selection_limit)
        given Breaks (PlainBreaks (its_answerer service) service.selection_limit) broken failed result old new left rest had has lends
