use Rattle.graphql_stores.proofs.AllowedLines.{not-passed, passed, passed-broken}
use Rattle.graphql_stores.proofs.allowing_service.AllowingService+S+R+R+Context.append_line.Goals as goal

pub returns-in-Ok-true-clause-answers : goal.returns-in-Ok-true-clause-answers
returns-in-Ok-true-clause-answers g c =
    passed _ _ _ c.args.line.now c.executable_requests_are_not_refused.ensures c.args.self.now.service.context
    c.append_answer_line.new.self.context c.args.out.now.items c.append_answer_line.new.out.items c.in-Ok-true.field-0 c.in-Ok-true.field-0-test
    c.in-Ok-true.ensures c.append_answer_line.result c.append_answer_line.ensures.answers

pub returns-in-Ok-true-clause-broken : goal.returns-in-Ok-true-clause-broken
returns-in-Ok-true-clause-broken g c =
    passed-broken _ _ _ c.args.line.now c.executable_requests_are_not_refused.ensures c.args.self.now.service.context
    c.append_answer_line.new.self.context c.args.out.now.items c.append_answer_line.new.out.items c.in-Ok-true.field-0 c.in-Ok-true.field-0-test
    c.in-Ok-true.ensures c.append_answer_line.result c.append_answer_line.ensures.broken

pub returns-in-Ok-false-clause-answers : goal.returns-in-Ok-false-clause-answers
returns-in-Ok-false-clause-answers g c =
    not-passed _ _ _ c.args.line.now c.append_not_allowed.result c.args.self.now.service.context c.args.out.now.items
    c.append_not_allowed.new.out.items c.values_are_lines.ensures c.answers_have_distinct_keys.ensures.1 c.in-Ok-false.field-0
    c.in-Ok-false.field-0-test c.in-Ok-false.ensures c.append_not_allowed.ensures.written
