use Rattle.graphql_plain_answers.proofs.PlainAnswers.{plain-documents-answer-alike}
use Rattle.graphql_plain_answers.proofs.laws.plain_documents_answer_alike.Goals as goal

pub returns : goal.returns
returns g c =
    let scalar = g.S.ScalarValue in
    plain-documents-answer-alike scalar.of_text scalar.of_bool scalar.answer _ g.met.S.Eq.laws
    c.stand_in_leaves_out.ensures _ _ _
