use Rattle.graphql_plain_answers.proofs.PlainDocuments.{plain-document-is-plain}
use Rattle.graphql_plain_answers.proofs.laws.plain_document_is_plain.Goals as goal

pub returns : goal.returns
returns g c = plain-document-is-plain g.S.ScalarValue.answer g.S.ScalarValue.of_bool
