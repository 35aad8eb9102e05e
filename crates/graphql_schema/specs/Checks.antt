-- What a check says of a value (GraphQL October 2021, 3.5 Scalars, 3.9 Enums, 3.10 Input Objects:
-- input coercion).
use Rattle.std.specs.Prelude.{Bool, List, ℕ, Result, Ok, Err}
use Rattle.std.specs.Borrow.{Bor}
use Rattle.graphql_scalars.specs.declared.check_error.CheckError.{CheckError}
use Rattle.graphql_scalars.specs.declared.check_error.CheckError.TheVariants.{Message}
pub use Rattle.graphql_values.specs.declared.input_value.InputValue.{InputValue}
pub use Rattle.graphql_values.specs.declared.input_value.InputValue.TheVariants.{Scalar as scalar_value}
use Rattle.graphql_values.specs.SameValue.{SameValue}
use Rattle.graphql_values.proofs.SameValueLaws.{by_a_third}
use Rattle.std.specs.Cmp.{IsEquivalence}

-- what a function may answer at a reference
abbrev pub CheckRelation : Type 0 → Type 1
CheckRelation S = Bor (InputValue S) → Result (Unit {0}) CheckError → Type 0

module _ {S : Type 0} (eq : S → S → Bool) (says : CheckRelation S) where
  -- it may give this answer at a value that is the same, places aside
  pub record MayAnswer (value : InputValue S) (answer : Result (Unit {0}) CheckError) : Type 0 where
    pub reference : Bor (InputValue S)
    pub same : SameValue S eq reference.now value
    pub answers : says reference answer

  abbrev pub Accepts : InputValue S → Type 0
  Accepts value = MayAnswer value (Ok tt)

  abbrev pub Refuses : InputValue S → Type 0
  Refuses value = (message : List ℕ) × MayAnswer value (Err (Message message))

  -- of values that are the same, places aside, it accepts all or refuses all; want of memory aside
  abbrev pub IsConsistent : Type 0
  IsConsistent = (value : InputValue S) → Accepts value → Refuses value → ⊥

-- what is accepted is accepted wherever it stands
pub accepts_same : {S : Type 0} {eq : S → S → Bool} {says : CheckRelation S} → IsEquivalence eq
    → (a b : InputValue S) → SameValue S eq a b → Accepts eq says a → Accepts eq says b
accepts_same {S} {eq} laws a b same accepted = record {
  reference = accepted.reference;
  same = by_a_third eq laws _ a b accepted.same same;
  answers = accepted.answers;
}
