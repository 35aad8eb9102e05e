use Rattle.graphql_stores_tests.proofs.AnsweredAround.{around}
use Rattle.graphql_stores_tests.proofs.cached.answered_around.Goals as goal

pub returns : goal.returns
returns g c = λ keeps.
    around _ c.args.cache.now c.answer.new.self c.answer-2.new.self c.answer-3.new.self c.args.line.now c.args.other.now
    _ _ _ c.in_ok-answer.ensures.answers c.in_ok-answer-2.ensures.answers c.in_ok-answer-3.ensures.answers keeps
