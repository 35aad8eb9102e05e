use Rattle.graphql_stores.proofs.CachedAnswers.{both-on-err}
use Rattle.graphql_stores.proofs.cached_lines.AnswerCacheContextLineEngine.append_answer.Goals as goal

pub returns-clause-answers : goal.returns-clause-answers
returns-clause-answers g c = c.append_line.ensures.answers

pub returns-clause-breaks : goal.returns-clause-breaks
returns-clause-breaks g c =
    both-on-err c.append_line.result _ _ c.append_line.ensures.kept c.append_line.ensures.breaks

pub returns-clause-limit : goal.returns-clause-limit
returns-clause-limit g c = c.append_line.ensures.parts.line_limit
