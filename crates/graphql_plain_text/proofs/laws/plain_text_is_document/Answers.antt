use Rattle.graphql_plain_text.proofs.PlainDocuments.{plain-document}
use Rattle.graphql_plain_text.proofs.laws.plain_text_is_document.Goals as goal

pub returns : goal.returns
returns g c = plain-document _ _ _
