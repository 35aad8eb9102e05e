-- A check of a property of scalars is consistent, and accepts the scalars that have it.
use Rattle.std.specs.Prelude.{◌≡◌, ◌↔◌, true, Result, Ok}
use Rattle.std.specs.Borrow.{Bor}
use Rattle.std.proofs.Common.{sym, refl, subst, ◌∙◌, rules, tests}
use Rattle.std.proofs.lemmas.Bool.{false≢true}
use Rattle.graphql_scalars.specs.declared.check_error.CheckError.{CheckError}
use Rattle.graphql_scalars.specs.declared.default_scalar.DefaultScalarValue.{DefaultScalarValue}
use Rattle.graphql_scalars.specs.declared.default_scalar.DefaultScalarValue.TheVariants as scalar
use Rattle.graphql_scalars.specs.contracts.default_scalar.DefaultScalarValuePartialEq.TheImpl as partial_eq
use Rattle.graphql_scalars.specs.contracts.default_scalar.DefaultScalarValueEq.TheImpl.Laws.{lawful}
use Rattle.graphql_values.specs.declared.input_value.InputValue.{InputValue}
use Rattle.graphql_values.specs.SameValue.{SameValue, same_null, same_scalar, same_enum, same_variable, same_list, same_object}
use Rattle.graphql_values.specs.ConversionLaws.{same_scalar as same_inside}
use Rattle.graphql_text.specs.Memory.{Told}
use Rattle.graphql_scalars.specs.declared.check_error.CheckError.TheVariants.{Memory}
use Rattle.graphql_schema.specs.Checks.{CheckRelation, Accepts, IsConsistent}
use Rattle.graphql_schema.specs.ScalarChecks.{IsScalar}
use Rattle.graphql_schema.proofs.CheckLemmas.{consistent_by, accepted_by}

-- scalars of the default type that compare equal are one scalar
equal_scalars : (a b : DefaultScalarValue) → partial_eq.ghosts.eq a b ≡ true → a ≡ b
equal_scalars (scalar.Int n) (scalar.Int m) equal = search (rules, tests)
equal_scalars (scalar.String n) (scalar.String m) equal = search (rules, tests)
equal_scalars (scalar.Boolean n) (scalar.Boolean m) equal = search (rules, tests)
equal_scalars _ _ equal = absurd (false≢true equal)

module _ (P : DefaultScalarValue → Type 0) where
  -- what holds of a scalar holds of the same scalar elsewhere
  scalars_alike : (a b : InputValue DefaultScalarValue) → SameValue DefaultScalarValue partial_eq.ghosts.eq a b → IsScalar P a → IsScalar P b
  scalars_alike _ _ same_null held = held
  scalars_alike _ _ (same_scalar a b equal) held = (b, refl, subst P (sym (same_inside a held.0 held.1) ∙ equal_scalars a b equal) held.2)
  scalars_alike _ _ (same_enum name) held = held
  scalars_alike _ _ (same_variable name) held = held
  scalars_alike _ _ (same_list xs ys items) held = absurd (search rules)
  scalars_alike _ _ (same_object ps qs fields) held = absurd (search rules)

-- where a function's answers tell whether the value is a scalar of which P holds
module _ (P : DefaultScalarValue → Type 0) {says : CheckRelation DefaultScalarValue} (tell : (p : Bor (InputValue DefaultScalarValue)) (r : Result (Unit {0}) CheckError) → says p r → Told (λ e. e ≡ Memory) r (IsScalar P p.now)) where
  -- it is consistent
  pub scalar_consistent : IsConsistent partial_eq.ghosts.eq says
  scalar_consistent = consistent_by lawful.laws (IsScalar P) (scalars_alike P) tell

  -- if it may accept each such value, it accepts these and no others
  pub scalar_accepted : ((p : Bor (InputValue DefaultScalarValue)) → IsScalar P p.now → says p (Ok tt)) → (v : InputValue DefaultScalarValue) → Accepts partial_eq.ghosts.eq says v ↔ IsScalar P v
  scalar_accepted = accepted_by lawful.laws (IsScalar P) (scalars_alike P) tell
