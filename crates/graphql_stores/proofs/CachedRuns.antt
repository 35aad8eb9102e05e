-- What is answered to lines where answers are kept, as the service's context shows it.
use Rattle.std.proofs.Common.{Option, Result, OnOk, refl, subst, ◌∙◌}
use Rattle.std.specs.Prelude.{IfErr}
use Rattle.graphql_names.specs.Names.{Bytes}
use Rattle.graphql_streams.specs.Served.{Ends, ServedAll}
use Rattle.graphql_streams.specs.declared.serve_error.ServeError.{ServeError}
use Rattle.graphql_streams.proofs.ShownRuns.{all-shown_if, ends-shown_if, stays_if}
use Rattle.graphql_service.specs.AnsweredBy.{AnsweredBy}
use Rattle.graphql_service.specs.Answers.{Answerer}
use Rattle.graphql_service.specs.Serving.{AnswersLine, BreaksAtLine, HasPartsOf}
use Rattle.graphql_service.specs.declared.service.Service.{Service}
use Rattle.graphql_stores.specs.Caching.{CacheAnswers, CacheBreaks, KeepsAnswers}
use Rattle.graphql_stores.specs.declared.answer_cache.AnswerCache.{AnswerCache}
use Rattle.graphql_stores.proofs.CachedAnswers.{answerer_with, its_answerer, own-parts}

parts-more : {S R X C : Type 0} (old between new : Service S R X C) → HasPartsOf old between → HasPartsOf between new → HasPartsOf old new
parts-more old between new a b = record {
  root_node = b.root_node ∙ a.root_node;
  resolver = b.resolver ∙ a.resolver;
  context = refl;
  line_limit = b.line_limit ∙ a.line_limit;
  selection_limit = b.selection_limit ∙ a.selection_limit;
}

module _ {S C N X R : Type 0} (answering : AnsweredBy S C N X R) where
  abbrev answerer : Service S R X C → Answerer S C N X
  answerer service = its_answerer answering service

  -- services of the same parts answer by the same
  by-same : (P : Answerer S C N X → Type 0) (old between : Service S R X C) → HasPartsOf old between → P (answerer between)
      → P (answerer old)
  by-same P old between same h =
      subst (λ n. P (answerer_with answering n old.resolver old.line_limit)) same.root_node
      (subst (λ r. P (answerer_with answering between.root_node r old.line_limit)) same.resolver
      (subst (λ l. P (answerer_with answering between.root_node between.resolver l)) same.line_limit h))

  -- what stays from a state of the run to the next: the service's parts, and that answers are kept
  abbrev pub Stays : Service S R X C → AnswerCache S R X C → Type 0
  Stays old cache = HasPartsOf old cache.service × KeepsAnswers answering cache

  context-answers : (old : Service S R X C) (between : AnswerCache S R X C) (line text : Bytes) (new : AnswerCache S R X C)
      → Stays old between → CacheAnswers answering between line text new
      → AnswersLine (answerer old) between.service.context line text new.service.context × Stays old new
  context-answers old between line text new stays h =
      let now = h stays.1 in (
        by-same (λ a. AnswersLine a between.service.context line text new.service.context) old between.service stays.0 now.0.0,
        (parts-more old between.service new.service stays.0 now.0.1, now.1),
      )

  context-breaks : (old : Service S R X C) (between : AnswerCache S R X C) (line : Bytes) (new : AnswerCache S R X C)
      → Stays old between → CacheBreaks answering between line new
      → BreaksAtLine (answerer old) between.service.context line new.service.context × Stays old new
  context-breaks old between line new stays h =
      let now = h stays.1 in (
        by-same (λ a. BreaksAtLine a between.service.context line new.service.context) old between.service stays.0 now.0.0,
        (parts-more old between.service new.service stays.0 now.0.1, now.1),
      )

  module _ {A : Type 0} (result : Result A ServeError) (old new : AnswerCache S R X C) (left rest had has : Option Bytes)
      (keeps : KeepsAnswers answering old) where
    first : Stays old.service old
    first = (own-parts old.service, keeps)

    pub serves-contexts : OnOk result (ServedAll (CacheAnswers answering) old left rest had has new)
        → OnOk result (ServedAll (AnswersLine (answerer old.service)) old.service.context left rest had has new.service.context)
    serves-contexts =
        all-shown_if (λ (cache : AnswerCache S R X C). cache.service.context) (Stays old.service)
        (CacheAnswers answering) (AnswersLine (answerer old.service)) (context-answers old.service) result
        old new left rest had has first

    pub ends-contexts : (failed : Type 0)
        → IfErr result (λ e. Ends (CacheAnswers answering) (CacheBreaks answering) failed e old left rest had has new)
        → IfErr result (λ e. Ends (AnswersLine (answerer old.service)) (BreaksAtLine (answerer old.service)) failed e old.service.context left rest had has new.service.context)
    ends-contexts failed =
        ends-shown_if (λ (cache : AnswerCache S R X C). cache.service.context) (Stays old.service)
        (CacheAnswers answering) (AnswersLine (answerer old.service)) (context-answers old.service)
        (CacheBreaks answering) (BreaksAtLine (answerer old.service)) (context-breaks old.service)
        failed result old new left rest had has first

    pub keeps-still : (failed : Type 0)
        → OnOk result (ServedAll (CacheAnswers answering) old left rest had has new)
        → IfErr result (λ e. Ends (CacheAnswers answering) (CacheBreaks answering) failed e old left rest had has new)
        → Stays old.service new
    keeps-still failed =
        stays_if (λ (cache : AnswerCache S R X C). cache.service.context) (Stays old.service)
        (CacheAnswers answering) (AnswersLine (answerer old.service)) (context-answers old.service)
        (CacheBreaks answering) (BreaksAtLine (answerer old.service)) (context-breaks old.service)
        failed result old new left rest had has first
