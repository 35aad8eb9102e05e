-- What is answered to lines, one after another, where answers are kept.
use Rattle.std.specs.Prelude.{◌<◌, length}
use Rattle.graphql_names.specs.Names.{Bytes}
use Rattle.graphql_streams.specs.Lines.{kept_of}
use Rattle.graphql_service.specs.AnsweredBy.{AnsweredBy}
use Rattle.graphql_service.specs.Serving.{answers-kept, breaks-kept}
use Rattle.graphql_stores.specs.Caching.{CacheAnswers, CacheBreaks}
use Rattle.graphql_stores.specs.declared.answer_cache.AnswerCache.{AnswerCache}

-- a line that is too long is answered by its front, as the service does
module _ {S C N X R : Type 0} (answering : AnsweredBy S C N X R) where
  pub cache-answers-kept : (old : AnswerCache S R X C) (line text : Bytes)
      (new : AnswerCache S R X C)
      → old.service.line_limit < length line
      → CacheAnswers answering old (kept_of old.service.line_limit line) text new
      → CacheAnswers answering old line text new
  cache-answers-kept old line text new longer h keeps = (
    answers-kept answering old.service line text new.service longer (h keeps).0,
    (h keeps).1,
  )

  pub cache-breaks-kept : (old : AnswerCache S R X C) (line : Bytes) (new : AnswerCache S R X C)
      → old.service.line_limit < length line
      → CacheBreaks answering old (kept_of old.service.line_limit line) new
      → CacheBreaks answering old line new
  cache-breaks-kept old line new longer h keeps = (
    breaks-kept answering old.service line new.service longer (h keeps).0,
    (h keeps).1,
  )
