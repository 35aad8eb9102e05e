use Rattle.std.proofs.Common.{option_map}
use Rattle.graphql_service.proofs.WrittenAnswers.{on_ok, on_err, both_on_ok, executed_answer, executed_broken, refused_answer, refused_broken}
use Rattle.graphql_service.proofs.service.Service+S+R+R+Context.push_executed.Goals as goal

pub returns-in-Ok-clause-answers : goal.returns-in-Ok-clause-answers
returns-in-Ok-clause-answers g c =
    let response = c.in-Ok.response in
    on_ok c.push_response.result _ _
    (λ e line asked asks holds. executed_answer _ line asked c.args.request.now c.as_str-query.result.now
    (option_map (λ t. t.now) c.operation_name_of-name.result) holds c.as_str-query.ensures.value c.operation_name_of-name.ensures asks
    response.0 response.1 c.args.self.now.context c.execute_with.new.context c.args.out.now.items c.push_response.new.out.items
    c.in-Ok.ensures.answered e)
    c.push_response.ensures.written

pub returns-in-Ok-clause-broken : goal.returns-in-Ok-clause-broken
returns-in-Ok-clause-broken g c =
    let response = c.in-Ok.response in
    on_err c.push_response.result _
    (λ line asked asks holds. executed_broken _ line asked c.args.request.now c.as_str-query.result.now
    (option_map (λ t. t.now) c.operation_name_of-name.result) holds c.as_str-query.ensures.value c.operation_name_of-name.ensures asks
    response.0 response.1 c.args.self.now.context c.execute_with.new.context c.in-Ok.ensures.answered)

pub returns-in-Err-clause-answers : goal.returns-in-Err-clause-answers
returns-in-Err-clause-answers g c =
    both_on_ok c.push_error.result _ _ _
    (λ e is line asked asks holds. refused_answer _ line asked c.args.request.now c.as_str-query.result.now
    (option_map (λ t. t.now) c.operation_name_of-name.result) holds c.as_str-query.ensures.value c.operation_name_of-name.ensures asks
    c.in-Err.error c.args.self.now.context c.execute_with.new.context c.args.out.now.items c.push_error.new.out.items
    c.in-Err.ensures.refused c.in-Err.ensures.unanswered e is)
    c.push_error.ensures.told c.push_error.ensures.memory

pub returns-in-Err-clause-broken : goal.returns-in-Err-clause-broken
returns-in-Err-clause-broken g c =
    on_err c.push_error.result _
    (λ line asked asks holds. refused_broken _ line asked c.args.request.now c.as_str-query.result.now
    (option_map (λ t. t.now) c.operation_name_of-name.result) holds c.as_str-query.ensures.value c.operation_name_of-name.ensures asks
    c.in-Err.error c.args.self.now.context c.execute_with.new.context c.in-Err.ensures.unanswered)
