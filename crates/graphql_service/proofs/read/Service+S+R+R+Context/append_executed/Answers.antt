use Rattle.std.proofs.Common.{[], take, ap, sym, append-nil, ◌∙◌}
use Rattle.graphql_json.proofs.Fronts.{front_cut}
use Rattle.graphql_service.proofs.WrittenAnswers.{answer_as_line}
use Rattle.graphql_service.proofs.read.Service+S+R+R+Context.append_executed.Goals as goal

pub returns-in-Ok-clause-answers : goal.returns-in-Ok-clause-answers
returns-in-Ok-clause-answers g c = λ line x.
    let old = c.args.self.now.context in
    let new = c.push_accepted.new.self.context in
    answer_as_line _ line c.values_are_lines.ensures old new
    (λ text. c.answer_lines_have_distinct_keys.ensures c.args.self.now line text old new)
    c.args.out.now.items c.push_accepted.new.out.items (c.in-Ok.ensures.answers line x)

pub returns-in-Err-clause-front : goal.returns-in-Err-clause-front
returns-in-Err-clause-front g c =
    let kept =
    c.truncate.ensures.items
    ∙ ap (λ n. take n c.push_accepted.new.out.items) (c.len-length.ensures ∙ c.args.out.now.ok.0)
    ∙ front_cut c.args.out.now.items c.push_accepted.new.out.items c.in-Err.ensures.front in
    record { behind = []; is = kept ∙ sym (append-nil c.args.out.now.items) }

pub returns-in-Err-clause-kept : goal.returns-in-Err-clause-kept
returns-in-Err-clause-kept g c =
    c.truncate.ensures.items
    ∙ ap (λ n. take n c.push_accepted.new.out.items) (c.len-length.ensures ∙ c.args.out.now.ok.0)
    ∙ front_cut c.args.out.now.items c.push_accepted.new.out.items c.in-Err.ensures.front
