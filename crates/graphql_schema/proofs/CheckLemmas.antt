-- What a function that accepts or refuses says of a value, and of the values that are the same.
use denote.Param.Members.{lent}
use Rattle.std.specs.Prelude.{◌≡◌, ◌↔◌, Bool, Result, Ok, Err}
use Rattle.std.proofs.Common.{subst, refl}
use Rattle.std.specs.declared.dyn_box.DynBox.{DynBox}
use Rattle.std.specs.Borrow.{Bor}
use Rattle.std.specs.Cmp.{IsEquivalence}
use Rattle.graphql_scalars.specs.declared.check_error.CheckError.{CheckError}
use Rattle.graphql_scalars.specs.declared.check_error.CheckError.TheVariants.{Message, Memory}
use Rattle.graphql_values.specs.declared.input_value.InputValue.{InputValue}
use Rattle.graphql_values.proofs.SameValueLaws.{same_as_itself, either_way}
use Rattle.graphql_text.specs.Memory.{Told}
use Rattle.graphql_schema.specs.Checks.{CheckRelation, Accepts, IsConsistent}
use Rattle.graphql_values.specs.SameValue.{SameValue}

module _ {S : Type 0} {eq : S → S → Bool} (laws : IsEquivalence eq) {says : CheckRelation S} where
  pub answer_tells : (p : Bor (InputValue S)) (r : Result (Unit {0}) CheckError) → IsConsistent eq says → says p r → Told (λ e. e ≡ Memory) r (Accepts eq says p.now)
  answer_tells p (Ok tt) consistent said = record { reference = p; same = same_as_itself eq laws p.now; answers = said }
  answer_tells p (Err (Message m)) consistent said =
      λ told accepted. consistent p.now accepted (m, record { reference = p; same = same_as_itself eq laws p.now; answers = said })
  answer_tells p (Err Memory) consistent said = λ told. absurd (told refl)

  -- where a function's answers tell whether the value has a property, which values have alike that are the same
  module _ (P : InputValue S → Type 0) (alike : (a b : InputValue S) → SameValue S eq a b → P a → P b) (tell : (p : Bor (InputValue S)) (r : Result (Unit {0}) CheckError) → says p r → Told (λ e. e ≡ Memory) r (P p.now)) where
    -- it is consistent
    pub consistent_by : IsConsistent eq says
    consistent_by value accepted refused =
        let back = refused.1 in
        tell back.reference (Err (Message refused.0)) back.answers (λ e. cc) (alike value _ (either_way eq laws _ _ back.same) (alike _ value accepted.same (tell accepted.reference (Ok tt) accepted.answers)))

    -- if it may accept each value that has the property, it accepts these and no others
    pub accepted_by : ((p : Bor (InputValue S)) → P p.now → says p (Ok tt)) → (v : InputValue S) → Accepts eq says v ↔ P v
    accepted_by may_accept v =
        (λ accepted. alike accepted.reference.now v accepted.same (tell accepted.reference (Ok tt) accepted.answers), λ held. record { reference = lent v; same = same_as_itself eq laws v; answers = may_accept (lent v) held })

-- a box of which it is known which function is in it
pub known_box : {X Z : Type 0} {F : X → Type 0} (b : DynBox X Z F) {at : X} (is : b.vtable ≡ at) → b ≡ record { ptr = b.ptr; vtable = at; alloc = b.alloc; value = subst F is b.value }
known_box {F = F} b is k = record { ptr = b.ptr; vtable = is k; alloc = b.alloc; value = coe 0 k (i. F (is i)) b.value }
