use Rattle.graphql_service_tests.proofs.executor.answered.validated_answer.Goals as goal

pub execute_validated_query-requires : goal.execute_validated_query-requires
execute_validated_query-requires g c =
    rw c.as_slice-definitions.ensures (c.documents_without_a_fault_are_settled.ensures c.in_ok-document.document
    (rw c.schema.ensures c.in_ok-document.ensures.read.valid.valid.no_fault))
