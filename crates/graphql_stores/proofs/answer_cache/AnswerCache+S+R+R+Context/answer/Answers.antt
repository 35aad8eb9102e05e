use Rattle.std.proofs.Common.{◌≡◌, [], ◌∙◌}
use Rattle.graphql_service.proofs.WrittenAnswers.{alone, also_on_err, on_ok}
use Rattle.graphql_stores.specs.Caching.{CacheAnswers}
use Rattle.graphql_stores.proofs.answer_cache.AnswerCache+S+R+R+Context.answer.Goals as goal

pub returns-clause-answers : goal.returns-clause-answers
returns-clause-answers g c =
    on_ok c.append_line.result _ _
    (alone (λ text. CacheAnswers _ c.args.self.now c.args.line.now text c.append_line.new.self) c.clear.new.self.items
    c.append_line.new.out.items c.clear.ensures.items)
    c.append_line.ensures.answers

pub returns-clause-emptied : goal.returns-clause-emptied
returns-clause-emptied g c =
    also_on_err c.append_line.result (c.append_line.new.out.items ≡ c.clear.new.self.items) (c.append_line.new.out.items ≡ [])
    (λ kept. kept ∙ c.clear.ensures.items) c.append_line.ensures.kept

pub returns-clause-broken : goal.returns-clause-broken
returns-clause-broken g c = c.append_line.ensures.breaks

pub returns-clause-parts : goal.returns-clause-parts
returns-clause-parts g c = c.append_line.ensures.parts
