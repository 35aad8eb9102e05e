-- What is accepted by a type of a schema's text is accepted wherever it stands.
use Rattle.std.specs.Prelude.{◌≡◌, ⊤, Result}
use Rattle.std.proofs.Common.{subst}
use Rattle.std.specs.declared.dyn_box.DynBox.{DynBox}
use Rattle.std.specs.Borrow.{Bor}
use Rattle.graphql_text.specs.Memory.{Told}
use Rattle.graphql_scalars.specs.declared.check_error.CheckError.{CheckError}
use Rattle.graphql_scalars.specs.declared.check_error.CheckError.TheVariants.{Memory}
use Rattle.graphql_scalars.specs.declared.default_scalar.DefaultScalarValue.{DefaultScalarValue}
use Rattle.graphql_scalars.specs.contracts.default_scalar.DefaultScalarValuePartialEq.TheImpl as partial_eq
use Rattle.graphql_scalars.specs.contracts.default_scalar.DefaultScalarValueEq.TheImpl.Laws.{lawful}
use Rattle.graphql_values.specs.declared.input_value.InputValue.{InputValue}
use Rattle.graphql_schema.specs.Checks.{CheckRelation, IsConsistent}
use Rattle.graphql_schema.proofs.CheckLemmas.{consistent_by}
use Rattle.graphql_schema.proofs.ScalarCheckLemmas.{scalar_consistent}
use Rattle.graphql_cases.specs.declared.checked.Checked.{Checked}
use Rattle.graphql_cases.specs.declared.checked.Checked.TheVariants as checked
use Rattle.graphql_cases.specs.Checked.{IsAccepted}

-- what the function in a box has been given, where it is known which function is in it
abbrev pub captured : {X Z : Type 0} {F : X → Type 0} (b : DynBox X Z F) {at : X} (is : b.vtable ≡ at) → F at
captured {F = F} b is = subst F is b.value

-- a function whose answers tell whether the value is accepted is consistent
pub accepted_consistent : (c : Checked) {says : CheckRelation DefaultScalarValue} → ((p : Bor (InputValue DefaultScalarValue)) (r : Result (Unit {0}) CheckError) → says p r → Told (λ e. e ≡ Memory) r (IsAccepted c p.now)) → IsConsistent partial_eq.ghosts.eq says
accepted_consistent checked.Int tell = scalar_consistent _ tell
accepted_consistent checked.String tell = scalar_consistent _ tell
accepted_consistent checked.Boolean tell = scalar_consistent _ tell
accepted_consistent checked.Id tell = scalar_consistent _ tell
accepted_consistent checked.Anything tell = consistent_by lawful.laws (λ _. ⊤) (λ a b same held. held) tell
