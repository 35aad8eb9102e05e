-- Tokens that are the same one by one, and texts of the same tokens.
use Rattle.std.proofs.Common.{◌≡◌, ◌↔◌, ◌<◌, sym, subst, refl, arith, ℕ, zero, suc, IsTrue, Bool, List, [], ◌∷◌, length, get_or}
use Rattle.graphql_text.specs.Grammar.{IsDivided}
use Rattle.graphql_lexer.specs.Laws.{OneList}
use Rattle.graphql_grammar.specs.Alike.{SameTokens}
use Rattle.graphql_grammar.specs.Input.{Located}
use Rattle.graphql_language.specs.Alike.{AreAlike}

-- what stands at each place of the same tokens
pub item-at : (ts us : List Located) → SameTokens ts us → (k : ℕ) (d : Located) → (get_or ts k d).item ≡ (get_or us k d).item
item-at [] [] same k d = refl
item-at [] (u ∷ us) same k d = absurd (cc)
item-at (t ∷ ts) [] same k d = absurd (cc)
item-at (t ∷ ts) (u ∷ us) same zero d = cc
item-at (t ∷ ts) (u ∷ us) same (suc k) d = let rest : SameTokens ts us = cc in item-at ts us rest k d

pub same-long : (ts us : List Located) → SameTokens ts us → length ts ≡ length us
same-long [] [] same = refl
same-long [] (u ∷ us) same = absurd (cc)
same-long (t ∷ ts) [] same = absurd (cc)
same-long (t ∷ ts) (u ∷ us) same =
    let rest : SameTokens ts us = cc in
    let tail = same-long ts us rest in
    λ i. suc (tail i)

-- as many tokens, the same at each place
pub same-throughout : (ts us : List Located) → length ts ≡ length us
    → ((k : ℕ) → k < length ts → (d : Located) → (get_or ts k d).item ≡ (get_or us k d).item) → SameTokens ts us
same-throughout [] [] long each = refl
same-throughout [] (u ∷ us) long each = absurd (omega arith)
same-throughout (t ∷ ts) [] long each = absurd (omega arith)
same-throughout (t ∷ ts) (u ∷ us) long each =
    let rest : length ts ≡ length us = omega arith in
    let front = each zero (omega arith) t in
    let behind = same-throughout ts us rest (λ k within d. each (suc k) (omega arith) d) in
    λ i. front i ∷ behind i

-- texts of such tokens are alike, since each has one list of tokens
pub are-alike : OneList → (one other : List ℕ) (ts us : List Located) → IsDivided one ts → IsDivided other us
    → (b : Bool) → IsTrue b ↔ SameTokens ts us → IsTrue b ↔ AreAlike one other
are-alike law one other ts us divided divided_other b same = (
  (λ is. record { tokens = ts; others = us; divided = divided; divided_other = divided_other; same = same.0 is }),
  (λ alike.
      same.1 (subst (λ xs. SameTokens xs us) (law one alike.tokens ts alike.divided divided)
      (subst (λ xs. SameTokens alike.tokens xs) (law other alike.others us alike.divided_other divided_other)
      alike.same))),
)
