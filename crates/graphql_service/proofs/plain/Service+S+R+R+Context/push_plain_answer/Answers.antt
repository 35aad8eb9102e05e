use Rattle.graphql_service.proofs.WrittenAnswers.{both_on_ok, on_ok}
use Rattle.graphql_service.proofs.PlainAnswering.{long_told, no_request_told}
use Rattle.graphql_service.proofs.plain.Service+S+R+R+Context.push_plain_answer.Goals as goal

pub returns-then-line-self-clause-answers : goal.returns-then-line-self-clause-answers
returns-then-line-self-clause-answers g c =
    on_ok c.push_line_refusal.result _ _
    (λ e. long_told _ _ c.args.line.now c.args.out.now.items c.push_line_refusal.new.out.items c.if-line-self.true e)
    c.push_line_refusal.ensures.told

pub returns-in-Ok-clause-answers : goal.returns-in-Ok-clause-answers
returns-in-Ok-clause-answers g c =
    let given = c.in-Ok.ensures in
    on_ok c.push_plain.result _ _
    (λ f. f c.args.line.now given.0 (record { within = c.if-line-self.false; asked = given.1; numbers = given.2.variables.fit }) given.2)
    c.push_plain.ensures.answers

pub returns-in-Err-clause-answers : goal.returns-in-Err-clause-answers
returns-in-Err-clause-answers g c =
    both_on_ok c.push_line_refusal-in-Err.result _ _ _
    (λ e is. no_request_told _ _ c.args.line.now c.in-Err.refusal c.args.out.now.items
    c.push_line_refusal-in-Err.new.out.items c.if-line-self.false (c.in-Err.ensures is) e)
    c.push_line_refusal-in-Err.ensures.told c.push_line_refusal-in-Err.ensures.memory
