-- What `rsplit_once` finds behind the last of a byte.
use Rattle.std.proofs.Common.{◌≡◌, ◌≢◌, ◌==◌, ℕ, suc, ◌+◌, ◌<◌, ◌≤◌, List, [], ◌∷◌, ◌++◌, Option, Some, None, MatchOption, option_map, length, get_or, take, drop, ap, ◌∙◌, sym, refl, arith, eq-eqb, ne_eqb, take-append-drop}
use Rattle.std.proofs.lemmas.Str.Pattern.{NoCharPasses-char, drop_at_char}
use Rattle.std.specs.Borrow.{Bor}
use Rattle.std.specs.Str.Pattern.{RFindsChar}
use Rattle.graphql_schema_rows.specs.Heads.{behind_last, or_here}

abbrev Lacks : ℕ → List ℕ → Type 0
Lacks b xs = (i : ℕ) → i < length xs → get_or xs i 0 ≢ b

lacks_none : (b : ℕ) (xs : List ℕ) → Lacks b xs → behind_last b xs ≡ None
lacks_none b [] lacks = refl
lacks_none b (x ∷ xs) lacks =
    ap (λ o. or_here o (x == b) xs) (lacks_none b xs (λ i l. lacks (suc i) (omega arith)))
    ∙ ap (λ t. or_here None t xs) (ne_eqb x b (lacks 0 (omega arith)))

behind_found : (b : ℕ) (xs ys : List ℕ) → Lacks b ys → behind_last b (xs ++ b ∷ ys) ≡ Some ys
behind_found b [] ys lacks =
    ap (λ o. or_here o (b == b) ys) (lacks_none b ys lacks) ∙ ap (λ t. or_here None t ys) (eq-eqb b b refl)
behind_found b (x ∷ xs) ys lacks = ap (λ o. or_here o (x == b) (xs ++ b ∷ ys)) (behind_found b xs ys lacks)

-- takes the clause of `rsplit_once` at an ASCII character
pub behind_split : (b : ℕ) (text : List ℕ) (r : Option (Bor (List ℕ) × Bor (List ℕ)))
    → MatchOption r (RFindsChar b text None) (λ x. (i : ℕ) × (j : ℕ) × RFindsChar b text (Some (i, j)) × (x.0.now ≡ take i text) × (x.1.now ≡ drop j text) × (i ≤ j) × (length x.0.now ≡ i) × (length x.1.now + j ≡ length text))
    → b < 128 → option_map (λ x. x.1.now) r ≡ behind_last b text
behind_split b text None h low = sym (lacks_none b text (λ i l. NoCharPasses-char b text i h low l))
behind_split b text (Some x) h low =
    let i = h.0 in
    let j = h.1 in
    let whole : text ≡ take i text ++ b ∷ drop j text = sym (take-append-drop i text) ∙ ap (λ t. take i text ++ t) (drop_at_char b text i j h.2.1 low) in
    let found = behind_found b (take i text) (drop j text) (λ k l. NoCharPasses-char b (drop j text) k h.2.0 low l) in
    ap Some h.4 ∙ sym (ap (behind_last b) whole ∙ found)
