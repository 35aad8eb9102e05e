-- Where a rule finds no fault.
use Rattle.std.proofs.Common.{◌≡◌, ◌↔◌, Bool, true, false, not, List, [], ◌∷◌, ◌++◌, refl, ap}
use Rattle.std.specs.List.{All, AllByRecursion as Each, flat_map}
use Rattle.std.proofs.lemmas.Bool.{both_ways, false_from_ne_true, not-false, not_from_true}
use Rattle.std.proofs.lemmas.List.Elements.{All-from_recursion, All-weaker, recursion_from_All}
use Rattle.graphql_text.specs.declared.position.SourcePosition.{SourcePosition}
use Rattle.graphql_rule_errors.specs.Places.{error_if}

pub append_none : {A : Type 0} (xs ys : List A) → xs ++ ys ≡ [] → (xs ≡ []) × (ys ≡ [])
append_none [] ys h = (refl, h)
append_none (x ∷ xs) ys h = cc

module _ {A B : Type 0} (f : A → List B) where
  each_none : (xs : List A) → flat_map f xs ≡ [] → Each (λ x. f x ≡ []) xs
  each_none [] h = tt
  each_none (x ∷ xs) h = let parts = append_none (f x) (flat_map f xs) h in (parts.0, each_none xs parts.1)

  flat_none : (xs : List A) → Each (λ x. f x ≡ []) xs → flat_map f xs ≡ []
  flat_none [] h = refl
  flat_none (x ∷ xs) h = (λ i. h.0 i ++ flat_none xs h.1 i)

  -- nothing is told of some things exactly where nothing is told of each
  pub none_told : (P : A → Type 0) → ((x : A) → (f x ≡ []) ↔ P x) → (xs : List A) → (flat_map f xs ≡ []) ↔ All P xs
  none_told P is xs = (
    λ h. All-weaker (λ x. f x ≡ []) P (λ x. (is x).0) xs (All-from_recursion (λ x. f x ≡ []) xs (each_none xs h)),
    λ h. flat_none xs (recursion_from_All (λ x. f x ≡ []) xs (All-weaker P (λ x. f x ≡ []) (λ x. (is x).1) xs h)),
  )

-- a single error
pub no_error : (wrong : Bool) (at : List SourcePosition) → error_if wrong at ≡ [] → wrong ≡ false
no_error true at h = cc
no_error false at h = refl

-- what is wrong is not so
pub none_if : (wrong : Bool) (at : List SourcePosition) (P : Type 0) → (wrong ≡ true) ↔ P → (error_if wrong at ≡ []) ↔ (P → ⊥)
none_if wrong at P is = (
  λ h p. both_ways wrong (no_error wrong at h) (is.1 p),
  λ h. ap (λ b. error_if b at) (false_from_ne_true wrong (λ e. h (is.0 e))),
)

-- what is wanted is so
pub none_unless : (right : Bool) (at : List SourcePosition) (P : Type 0) → (right ≡ true) ↔ P → (error_if (not right) at ≡ []) ↔ P
none_unless right at P is = (
  λ h. is.0 (not-false right (no_error (not right) at h)),
  λ h. ap (λ b. error_if b at) (not_from_true right (is.1 h)),
)
