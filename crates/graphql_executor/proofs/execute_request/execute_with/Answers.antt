use Rattle.std.proofs.Common.{sym, subst}
use Rattle.graphql_schema.proofs.MeantScalars.{scalars_of}
use Rattle.graphql_schema.specs.Declarations.{declarations_of}
use Rattle.graphql_requests.specs.Validity.{HasNoFault}
use Rattle.graphql_executor.proofs.execute_request.execute_with.Goals as goal

pub execute_validated_query-requires : goal.execute_validated_query-requires
execute_validated_query-requires g c =
    let scalars = scalars_of g.S.ParseScalarValue g.S.ScalarValue g.S.PartialEq g.S.Check.Check in
    let document = c.in_ok-document.document in
    let valid = subst (λ s. HasNoFault scalars (record { schema = declarations_of s; document = document })) (sym c.schema.ensures) c.in_ok-document.ensures.read.valid.valid.no_fault in
    rw c.as_slice-definitions.ensures (c.documents_without_a_fault_are_settled.ensures document valid)
