use Rattle.std.proofs.Common.{take, ap, ◌∙◌}
use Rattle.graphql_json.proofs.Fronts.{front_cut}
use Rattle.graphql_service.proofs.WrittenAnswers.{answer_as_line}
use Rattle.graphql_service.proofs.service.Service+S+R+R+Context.append_line.Goals as goal

pub returns-in-Ok-clause-answers : goal.returns-in-Ok-clause-answers
returns-in-Ok-clause-answers g c =
    answer_as_line _ c.args.line.now c.values_are_lines.ensures c.args.self.now.context c.push_answer.new.self.context
    (λ text. c.answer_lines_have_distinct_keys.ensures c.args.self.now c.args.line.now text c.args.self.now.context c.push_answer.new.self.context)
    c.args.out.now.items c.push_answer.new.out.items c.in-Ok.ensures.answers

pub returns-in-Err-clause-kept : goal.returns-in-Err-clause-kept
returns-in-Err-clause-kept g c =
    c.truncate.ensures.items ∙ ap (λ n. take n c.push_answer.new.out.items) (c.len-length.ensures ∙ c.args.out.now.ok.0)
    ∙ front_cut c.args.out.now.items c.push_answer.new.out.items c.in-Err.ensures.front
