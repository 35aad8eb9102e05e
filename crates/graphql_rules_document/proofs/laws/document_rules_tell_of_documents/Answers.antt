use Rattle.graphql_rules_document.proofs.OnceLemmas.{told_over_document}
use Rattle.graphql_rules_document.proofs.laws.document_rules_tell_of_documents.Goals as goal

pub returns : goal.returns
returns g c = λ subject v w told fresh runs. told_over_document g.R.DocumentRule.says subject v w told fresh runs
