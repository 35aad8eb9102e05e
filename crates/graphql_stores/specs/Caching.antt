-- A service whose answers are kept (GraphQL October 2021, 6.1 Executing Requests).
use Rattle.std.specs.Prelude.{◌≡◌, Result, OnErr, OnOk}
use Rattle.graphql_names.specs.Names.{Bytes}
use Rattle.graphql_service.specs.AnsweredBy.{AnsweredBy}
use Rattle.graphql_service.specs.Answers.{Appends, answerer_of}
use Rattle.graphql_service.specs.PlainRequests.{TakesStandIn}
use Rattle.graphql_service.specs.Serving.{HasPartsOf, ServiceAnswers, ServiceBreaks}
use Rattle.graphql_stores.specs.StoredAnswers.{AreAnswers, AreWholeAnswers}
use Rattle.graphql_stores.specs.declared.answer_cache.AnswerCache.{AnswerCache}

module _ {S C N X R : Type 0} (answering : AnsweredBy S C N X R) where
  -- each answer that is kept is the service's on the present context; the schema takes the stand-in
  -- of plain texts
  pub record KeepsAnswers (cache : AnswerCache S R X C) : Type 0 where
    pub takes : TakesStandIn answering.scalars cache.service.root_node.schema
    pub by_line : AreAnswers (answerer_of answering cache.service)
        cache.service.context cache.kept.by_line
    pub by_plain : AreWholeAnswers (answerer_of answering cache.service)
        cache.service.context cache.kept.by_plain

  -- a cache that keeps answers gives the line the service's answer, and keeps answers then
  abbrev pub CacheAnswers : AnswerCache S R X C → Bytes → Bytes → AnswerCache S R X C → Type 0
  CacheAnswers old line text new =
      KeepsAnswers old
      → ServiceAnswers answering old.service line text new.service
      × KeepsAnswers new

  -- where memory runs out it leaves what the service leaves, and keeps answers then
  abbrev pub CacheBreaks : AnswerCache S R X C → Bytes → AnswerCache S R X C → Type 0
  CacheBreaks old line new =
      KeepsAnswers old
      → ServiceBreaks answering old.service line new.service
      × KeepsAnswers new

  -- the line is answered behind what was written before; or memory ran out, and that alone is
  -- written
  pub record AnswersBehind {A E : Type 0} (result : Result A E) (old : AnswerCache S R X C)
      (line before after : Bytes) (new : AnswerCache S R X C) : Type 0 where
    pub answers : OnOk result (Appends (λ text. CacheAnswers old line text new) before after)
    pub breaks : OnErr result (CacheBreaks old line new)
    pub parts : HasPartsOf old.service new.service
    pub kept : OnErr result (after ≡ before)
