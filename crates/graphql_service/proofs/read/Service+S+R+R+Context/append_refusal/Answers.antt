use Rattle.std.proofs.Common.{take, ap, ◌∙◌}
use Rattle.graphql_json.proofs.Fronts.{front_cut}
use Rattle.graphql_service.proofs.WrittenAnswers.{answer_as_line}
use Rattle.graphql_service.proofs.ReadAnswers.{request-refused}
use Rattle.graphql_service.proofs.read.Service+S+R+R+Context.append_refusal.Goals as goal

pub returns-in-Ok-clause-answers : goal.returns-in-Ok-clause-answers
returns-in-Ok-clause-answers g c = λ line h.
    let context = c.args.self.now.context in
    answer_as_line _ line c.values_are_lines.ensures context context
    (λ text. c.answer_lines_have_distinct_keys.ensures c.args.self.now line text context context)
    c.args.out.now.items c.push_error.new.out.items
    (request-refused _ line c.args.error context c.args.out.now.items c.push_error.new.out.items
    c.in-Ok.ensures.told h)

pub returns-in-Err-clause-kept : goal.returns-in-Err-clause-kept
returns-in-Err-clause-kept g c =
    c.truncate.ensures.items
    ∙ ap (λ n. take n c.push_error.new.out.items) (c.len-length.ensures ∙ c.args.out.now.ok.0)
    ∙ front_cut c.args.out.now.items c.push_error.new.out.items c.in-Err.ensures.front
