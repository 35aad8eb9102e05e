use Rattle.graphql_plain_answers.proofs.SameDocuments.{same-documents-answer-alike}
use Rattle.graphql_plain_answers.proofs.laws.same_documents_answer_alike.Goals as goal

pub returns : goal.returns
returns g c =
    let scalar = g.S.ScalarValue in
    same-documents-answer-alike scalar.of_text scalar.of_bool scalar.answer _ g.met.S.Eq.laws
    _ _ _
