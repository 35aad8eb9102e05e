use Rattle.std.proofs.Common.{◌≡◌, [], ◌∙◌}
use Rattle.graphql_answers.specs.Lines.{IsLine}
use Rattle.graphql_service.specs.Laws.{IsLineOfDistinctKeys}
use Rattle.graphql_service.proofs.WrittenAnswers.{also_on_err, on_ok}
use Rattle.graphql_stores.proofs.AllowedLines.{all-written}
use Rattle.graphql_stores.proofs.allowing_service.AllowingService+S+R+R+Context.answer.Goals as goal

pub returns-clause-answers : goal.returns-clause-answers
returns-clause-answers g c =
    on_ok c.append_line.result _ _ (λ k. k.answer)
    (all-written _ _ _ c.args.line.now c.append_line.result c.args.self.now.service.context c.append_line.new.self.service.context
    c.clear.new.self.items c.append_line.new.out.items c.clear.ensures.items c.append_line.ensures.answers)

pub returns-clause-line : goal.returns-clause-line
returns-clause-line g c =
    on_ok c.append_line.result _ (IsLine c.append_line.new.out.items) (λ k. k.one_line)
    (all-written _ _ _ c.args.line.now c.append_line.result c.args.self.now.service.context c.append_line.new.self.service.context
    c.clear.new.self.items c.append_line.new.out.items c.clear.ensures.items c.append_line.ensures.answers)

pub returns-clause-distinct : goal.returns-clause-distinct
returns-clause-distinct g c =
    on_ok c.append_line.result _ (IsLineOfDistinctKeys c.append_line.new.out.items) (λ k. k.distinct)
    (all-written _ _ _ c.args.line.now c.append_line.result c.args.self.now.service.context c.append_line.new.self.service.context
    c.clear.new.self.items c.append_line.new.out.items c.clear.ensures.items c.append_line.ensures.answers)

pub returns-clause-emptied : goal.returns-clause-emptied
returns-clause-emptied g c =
    also_on_err c.append_line.result (c.append_line.new.out.items ≡ c.clear.new.self.items) (c.append_line.new.out.items ≡ [])
    (λ kept. kept ∙ c.clear.ensures.items) c.append_line.ensures.kept
