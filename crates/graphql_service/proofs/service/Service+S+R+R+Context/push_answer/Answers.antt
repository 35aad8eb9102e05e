use Rattle.std.proofs.Common.{inl, refl}
use Rattle.graphql_service.proofs.WrittenAnswers.{on_ok, on_err, also_on_err, both_on_ok, too_long, no_request_answer}
use Rattle.graphql_service.proofs.service.Service+S+R+R+Context.push_answer.Goals as goal

pub returns-then-line-self-clause-answers : goal.returns-then-line-self-clause-answers
returns-then-line-self-clause-answers g c =
    on_ok c.push_line_refusal.result _ _
    (λ e. too_long _ c.args.line.now c.args.self.now.context c.args.out.now.items c.push_line_refusal.new.out.items c.if-line-self.true e)
    c.push_line_refusal.ensures.told

pub returns-then-line-self-clause-broken : goal.returns-then-line-self-clause-broken
returns-then-line-self-clause-broken g c = on_err c.push_line_refusal.result _ (inl refl)

pub returns-in-Ok-clause-answers : goal.returns-in-Ok-clause-answers
returns-in-Ok-clause-answers g c =
    let given = c.in-Ok.ensures in
    on_ok c.push_executed.result _ _
    (λ f. f c.args.line.now given.0 (record { within = c.if-line-self.false; asked = given.1; numbers = given.2.variables.fit }) given.2)
    c.push_executed.ensures.answers

pub returns-in-Ok-clause-broken : goal.returns-in-Ok-clause-broken
returns-in-Ok-clause-broken g c =
    let given = c.in-Ok.ensures in
    also_on_err c.push_executed.result _ _
    (λ f. f c.args.line.now given.0 (record { within = c.if-line-self.false; asked = given.1; numbers = given.2.variables.fit }) given.2)
    c.push_executed.ensures.broken

pub returns-in-Err-clause-answers : goal.returns-in-Err-clause-answers
returns-in-Err-clause-answers g c =
    both_on_ok c.push_line_refusal-in-Err.result _ _ _
    (λ e is. no_request_answer _ c.args.line.now c.in-Err.refusal c.args.self.now.context c.args.out.now.items
    c.push_line_refusal-in-Err.new.out.items c.if-line-self.false (c.in-Err.ensures is) e)
    c.push_line_refusal-in-Err.ensures.told c.push_line_refusal-in-Err.ensures.memory

pub returns-in-Err-clause-broken : goal.returns-in-Err-clause-broken
returns-in-Err-clause-broken g c = on_err c.push_line_refusal-in-Err.result _ (inl refl)
