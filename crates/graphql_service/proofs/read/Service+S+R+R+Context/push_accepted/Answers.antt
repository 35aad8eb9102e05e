use Rattle.graphql_service.proofs.WrittenAnswers.{both_on_ok, on_err, on_ok}
use Rattle.graphql_service.proofs.ReadAnswers.{executed, executed-broken, is-served, left-broken}
use Rattle.graphql_service.proofs.read.Service+S+R+R+Context.push_accepted.Goals as goal

pub returns-in-Ok-clause-answers : goal.returns-in-Ok-clause-answers
returns-in-Ok-clause-answers g c =
    let response = c.in-Ok.response in
    on_ok c.push_response.result _ _
    (λ e line x. executed _ line c.args.accepted.now x response.0 response.1 c.args.self.now.context
    c.execute_validated_query.new.context c.args.out.now.items c.push_response.new.out.items
    c.in-Ok.ensures.answered e)
    c.push_response.ensures.written

pub returns-in-Ok-clause-broken : goal.returns-in-Ok-clause-broken
returns-in-Ok-clause-broken g c =
    let response = c.in-Ok.response in
    on_err c.push_response.result _
    (λ line x. executed-broken _ line c.args.accepted.now x response.0 response.1
    c.args.self.now.context c.execute_validated_query.new.context c.in-Ok.ensures.answered)

pub returns-in-Err-clause-answers : goal.returns-in-Err-clause-answers
returns-in-Err-clause-answers g c =
    both_on_ok c.push_error.result _ _ _
    (λ e is line x. absurd (is-served _ line c.args.accepted.now x c.in-Err.error is
    c.in-Err.ensures.refused))
    c.push_error.ensures.told c.push_error.ensures.memory

pub returns-in-Err-clause-broken : goal.returns-in-Err-clause-broken
returns-in-Err-clause-broken g c =
    on_err c.push_error.result _
    (λ line x. left-broken _ line c.args.accepted.now x c.in-Err.error c.args.self.now.context
    c.execute_validated_query.new.context c.in-Err.ensures.unanswered)
