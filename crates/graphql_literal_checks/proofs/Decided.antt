-- What a test that was made tells of a fact, and of each item of a list.
use Rattle.std.proofs.Common.{◌≡◌, ◌<◌, ◌+◌, ℕ, ◌↔◌, IsTrue, IfOk, Result, Ok, Err, Bool, true, false, List, take, length, get_or, ◌≤◌, ◌∙◌, refl, sym, subst, true≢false}
use Rattle.std.specs.List.{All}
use Rattle.std.specs.declared.alloc.AllocError.{AllocError}
use Rattle.std.proofs.lemmas.List.{take_all}
use Rattle.std.proofs.lemmas.List.Elements.{All-more, All-get_or}

pub holds : {P : Type 0} → P → IsTrue true ↔ P
holds p = (λ h. p, λ q. refl)

pub fails : {P : Type 0} → (P → ⊥) → IsTrue false ↔ P
fails never = (λ h. absurd (true≢false (sym h)), λ p. absurd (never p))

pub refuted : {P : Type 0} (b : Bool) → b ≡ false → IsTrue b ↔ P → P → ⊥
refuted b is told p = true≢false (sym (told.1 p) ∙ is)

-- a fact that holds, and one that a test tells
pub both_told : (P Q : Type 0) (r : Result Bool AllocError) → P → IfOk r (λ told. IsTrue told ↔ Q) → IfOk r (λ told. IsTrue told ↔ (P × Q))
both_told P Q (Ok b) p told = (λ is. (p, told.0 is), λ both. told.1 both.1)
both_told P Q (Err e) p told = tt

module _ {A : Type 0} (P : A → Type 0) (xs : List A) (i : ℕ) (this : A) where
  pub all_turn : i < length xs → this ≡ get_or xs i this → All P (take i xs) → P this → All P (take (i + 1) xs)
  all_turn inside here so_far p = All-more P xs i this inside so_far (subst P here p)

  pub all_refuted : i < length xs → this ≡ get_or xs i this → (P this → ⊥) → All P xs → ⊥
  all_refuted inside here never all = never (subst P (sym here) (All-get_or P xs i this inside all))

pub all_held : {A : Type 0} (P : A → Type 0) (xs : List A) (i : ℕ) → length xs ≤ i → All P (take i xs) → All P xs
all_held P xs i whole so_far = subst (All P) (take_all i xs whole) so_far
