use Rattle.std.proofs.Common.{◌≡◌, [], ◌∙◌}
use Rattle.graphql_answers.specs.Lines.{IsLine}
use Rattle.graphql_service.specs.Laws.{IsLineOfDistinctKeys}
use Rattle.graphql_service.proofs.WrittenAnswers.{also_on_err, on_ok}
use Rattle.graphql_service.proofs.PlainAnswering.{told_alone}
use Rattle.graphql_service.proofs.plain.Service+S+R+R+Context.plain_line.Goals as goal

pub returns-clause-answers : goal.returns-clause-answers
returns-clause-answers g c =
    on_ok c.append_plain_line.result _ _ (λ k. k.answer)
    (told_alone _ _ c.args.line.now c.append_plain_line.result c.clear.new.self.items c.append_plain_line.new.out.items
    c.clear.ensures.items c.append_plain_line.ensures.answers)

pub returns-clause-line : goal.returns-clause-line
returns-clause-line g c =
    on_ok c.append_plain_line.result _ (IsLine c.append_plain_line.new.out.items) (λ k. k.one_line)
    (told_alone _ _ c.args.line.now c.append_plain_line.result c.clear.new.self.items c.append_plain_line.new.out.items
    c.clear.ensures.items c.append_plain_line.ensures.answers)

pub returns-clause-distinct : goal.returns-clause-distinct
returns-clause-distinct g c =
    on_ok c.append_plain_line.result _ (IsLineOfDistinctKeys c.append_plain_line.new.out.items) (λ k. k.distinct)
    (told_alone _ _ c.args.line.now c.append_plain_line.result c.clear.new.self.items c.append_plain_line.new.out.items
    c.clear.ensures.items c.append_plain_line.ensures.answers)

pub returns-clause-emptied : goal.returns-clause-emptied
returns-clause-emptied g c =
    also_on_err c.append_plain_line.result (c.append_plain_line.new.out.items ≡ c.clear.new.self.items)
    (c.append_plain_line.new.out.items ≡ []) (λ kept. kept ∙ c.clear.ensures.items) c.append_plain_line.ensures.kept
