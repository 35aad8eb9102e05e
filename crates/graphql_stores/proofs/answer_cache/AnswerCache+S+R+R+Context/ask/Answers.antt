use Rattle.std.proofs.Common.{subst}
use Rattle.graphql_stores.proofs.CachedAnswers.{let-go}
use Rattle.graphql_stores.proofs.answer_cache.AnswerCache+S+R+R+Context.ask.Goals as goal

pub returns-in-Ok-clause-answers : goal.returns-in-Ok-clause-answers
returns-in-Ok-clause-answers g c = λ line x.
    let written = c.in-Ok.ensures.answers line x in
    (written.0, written.1, (written.2, c.append_executed.ensures.parts))

pub returns-in-Err-clause-broken : goal.returns-in-Err-clause-broken
returns-in-Err-clause-broken g c = λ line x.
    let-go _ c.args.self.now c.append_executed.new.self c.clear.new.self line
    c.append_executed.ensures.parts (c.in-Err.ensures.broken line x) c.clear.ensures.by_line
    c.clear.ensures.by_plain
