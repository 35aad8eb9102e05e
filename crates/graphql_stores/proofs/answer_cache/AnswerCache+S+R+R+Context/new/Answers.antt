use Rattle.graphql_stores.proofs.CachedAnswers.{none-kept}
use Rattle.graphql_stores.proofs.answer_cache.AnswerCache+S+R+R+Context.new.Goals as goal

pub returns-clause-keeps : goal.returns-clause-keeps
returns-clause-keeps g c = none-kept _ c.args.service c.new.result c.new.ensures.by_line c.new.ensures.by_plain
