use Rattle.std.proofs.Common.{◌≡◌, sym, ap, subst, append_assoc}
use Rattle.graphql_field_results.specs.IntoFieldErrors.{IsFaultOf, only_reason}
use Rattle.graphql_field_results.specs.declared.field_error.FieldError.{FieldError}
use Rattle.graphql_field_results.specs.declared.field_fault.FieldFault.{FieldFault}
use Rattle.graphql_field_results.specs.declared.field_fault.FieldFault.TheVariants as fault
use Rattle.graphql_field_results.proofs.into_field_error.count_told.Goals as goal

is-fault : {S : Type 0} {given wanted : FieldError S} {answer : FieldFault S} → answer ≡ fault.Error given → given ≡ wanted → IsFaultOf wanted answer
is-fault {wanted = wanted} answers same = subst (IsFaultOf wanted) (sym answers) same

pub returns-in-Ok : goal.returns-in-Ok
returns-in-Ok g c = simp append_assoc (is-fault c.into_field_error.ensures (ap (only_reason {S = g.row.S.Denot}) c.in-Ok.ensures.ok))
