use Rattle.std.proofs.Common.{◌≡◌, ◌++◌, string_bytes, subst}
use Rattle.graphql_answers.specs.Lines.{line_of}
use Rattle.graphql_answers.specs.Responses.{plain_answer_of}
use Rattle.graphql_names.specs.Names.{Bytes}
use Rattle.graphql_service.proofs.WrittenAnswers.{both_on_ok, on_ok}
use Rattle.graphql_service.proofs.PlainAnswering.{plain_told, refusal_told}
use Rattle.graphql_service.proofs.plain.Service+S+R+R+Context.push_plain.Goals as goal

pub returns-in-Ok-clause-answers : goal.returns-in-Ok-clause-answers
returns-in-Ok-clause-answers g c =
    let old : Bytes = c.args.out.now.items in
    let new : Bytes = c.push_plain_text.new.out.items in
    on_ok c.push_plain_text.result _ _
    (λ e line asked asks holds. plain_told _ _ line asked c.args.request.now holds asks (string_bytes c.in-Ok.text) old new
    c.in-Ok.ensures.plain (subst (λ t. new ≡ old ++ line_of (plain_answer_of t)) c.as_str.ensures.value e))
    c.push_plain_text.ensures.written

pub returns-in-Err-clause-answers : goal.returns-in-Err-clause-answers
returns-in-Err-clause-answers g c =
    both_on_ok c.push_plain_error.result _ _ _
    (λ e is line asked asks holds. refusal_told _ _ line asked c.args.request.now holds asks c.in-Err.error
    c.args.out.now.items c.push_plain_error.new.out.items c.in-Err.ensures.refused e is)
    c.push_plain_error.ensures.told c.push_plain_error.ensures.memory
