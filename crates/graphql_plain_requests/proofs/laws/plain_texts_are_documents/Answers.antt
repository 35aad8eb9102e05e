use Rattle.std.proofs.Common.{subst}
use Rattle.graphql_schema.specs.Declarations.{declarations_of}
use Rattle.graphql_plain_validity.specs.Laws.{WrittenSetsAreFilled}
use Rattle.graphql_plain_requests.proofs.PlainDocuments.{plain-texts-are-documents}
use Rattle.graphql_plain_requests.proofs.laws.plain_texts_are_documents.Goals as goal

pub returns : goal.returns
returns g c =
    plain-texts-are-documents _ c.args.root_node.now c.spelled_sets_are_whole.ensures
    (subst (λ schema. WrittenSetsAreFilled (declarations_of schema)) c.schema.ensures c.written_sets_are_filled.ensures)
    c.documents_without_a_fault_are_well_formed.ensures c.plain_text_is_document.ensures
