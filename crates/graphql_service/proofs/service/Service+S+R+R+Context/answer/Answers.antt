use Rattle.std.proofs.Common.{◌≡◌, [], ◌∙◌}
use Rattle.graphql_service.proofs.WrittenAnswers.{also_on_err, written_answer, written_line, written_distinct}
use Rattle.graphql_service.proofs.service.Service+S+R+R+Context.answer.Goals as goal

pub returns-clause-answers : goal.returns-clause-answers
returns-clause-answers g c =
    written_answer _ c.args.line.now c.append_answer_line.result c.args.self.now.context c.append_answer_line.new.self.context c.clear.new.self.items
    c.append_answer_line.new.out.items c.clear.ensures.items c.append_answer_line.ensures.answers

pub returns-clause-line : goal.returns-clause-line
returns-clause-line g c =
    written_line _ c.args.line.now c.append_answer_line.result c.args.self.now.context c.append_answer_line.new.self.context c.clear.new.self.items
    c.append_answer_line.new.out.items c.clear.ensures.items c.append_answer_line.ensures.answers

pub returns-clause-distinct : goal.returns-clause-distinct
returns-clause-distinct g c =
    written_distinct _ c.args.line.now c.append_answer_line.result c.args.self.now.context c.append_answer_line.new.self.context c.clear.new.self.items
    c.append_answer_line.new.out.items c.clear.ensures.items c.append_answer_line.ensures.answers

pub returns-clause-emptied : goal.returns-clause-emptied
returns-clause-emptied g c =
    also_on_err c.append_answer_line.result (c.append_answer_line.new.out.items ≡ c.clear.new.self.items) (c.append_answer_line.new.out.items ≡ [])
    (λ kept. kept ∙ c.clear.ensures.items) c.append_answer_line.ensures.kept
