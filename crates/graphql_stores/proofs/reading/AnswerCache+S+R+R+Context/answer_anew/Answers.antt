use Rattle.std.proofs.Common.{◌≤◌, ◌<◌, length, subst}
use Rattle.graphql_lines.specs.declared.refusal.LineRefusal.TheVariants.{LineTooLong}
use Rattle.graphql_stores.proofs.CachedAnswers.{refuses-due, refuses-line}
use Rattle.graphql_stores.proofs.reading.AnswerCache+S+R+R+Context.answer_anew.Goals as goal

pub returns-then-line-line_limit : goal.returns-then-line-line_limit
returns-then-line-line_limit g c =
    let longer = subst (λ n. n < length c.args.line.now) c.line_limit.ensures c.if-line-line_limit.true in
    refuses-line _ c.args.self.now c.args.line.now c.args.out.now.items
    c.append_line_refusal.new.out.items c.append_line_refusal.result LineTooLong
    c.append_line_refusal.ensures.answers c.append_line_refusal.ensures.memory
    c.append_line_refusal.ensures.kept (λ is. longer)

pub answer_request-requires : goal.answer_request-requires
answer_request-requires g c =
    let given = c.in-Ok.ensures in
    let within = subst (λ n. length c.args.line.now ≤ n) c.line_limit.ensures c.if-line-line_limit.false in
    record {
      asked = given.0;
      asks = record { within = within; asked = given.1; numbers = given.2.variables.fit };
      holds = given.2;
    }

pub returns-in-Err : goal.returns-in-Err
returns-in-Err g c =
    let within = subst (λ n. length c.args.line.now ≤ n) c.line_limit.ensures c.if-line-line_limit.false in
    refuses-due _ c.args.self.now c.args.line.now c.args.out.now.items
    c.append_line_refusal-in-Err.new.out.items c.append_line_refusal-in-Err.result c.in-Err.refusal
    c.append_line_refusal-in-Err.ensures.answers c.append_line_refusal-in-Err.ensures.memory
    c.append_line_refusal-in-Err.ensures.kept within c.in-Err.ensures
