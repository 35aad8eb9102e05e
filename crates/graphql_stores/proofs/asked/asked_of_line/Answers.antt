use Rattle.std.proofs.Common.{◌≤◌, length, subst}
use Rattle.graphql_stores.proofs.AskedLines.{asked-by-refusal, asked-by-request, too-long}
use Rattle.graphql_stores.proofs.asked.asked_of_line.Goals as goal

pub returns-then-line-line_limit : goal.returns-then-line-line_limit
returns-then-line-line_limit g c =
    too-long _ _ c.args.line.now c.line_limit.result c.line_limit.ensures c.if-line-line_limit.true

pub returns-in-Ok : goal.returns-in-Ok
returns-in-Ok g c =
    let given = c.in-Ok.ensures in
    let within = subst (λ n. length c.args.line.now ≤ n) c.line_limit.ensures c.if-line-line_limit.false in
    asked-by-request _ _ c.args.line.now c.asked_of_request.result c.in-Ok.request given.0
    (record { within = within; asked = given.1; numbers = given.2.variables.fit }) given.2 c.asked_of_request.ensures

pub returns-in-Err : goal.returns-in-Err
returns-in-Err g c =
    let within = subst (λ n. length c.args.line.now ≤ n) c.line_limit.ensures c.if-line-line_limit.false in
    asked-by-refusal _ _ c.args.line.now c.asked_of_refusal.result c.in-Err.refusal within c.in-Err.ensures
    c.asked_of_refusal.ensures.refused c.asked_of_refusal.ensures.memory
