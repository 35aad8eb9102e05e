-- Tables of pairs of numbers.
use Rattle.std.proofs.Common.{◌≡◌, ◌≢◌, refl, ap, sym, ◌∙◌, ℕ, ◌%◌, eqb, false, ◌||◌, List, [], ◌∷◌, ◌++◌, None, slice_get, unwrap_or, inl, inr}
use Rattle.std.specs.List.{list_any}
use Rattle.std.proofs.lemmas.Bool.{false≢true, or_cases}
use Rattle.std.proofs.lemmas.Bool.Decides.{eqb_tells}
use Rattle.std.proofs.lemmas.List.Folds.{list_any-append}
use Rattle.std.proofs.lemmas.Option.{unwrap_or-slice_get}
use Rattle.std.proofs.lemmas.Nat.Bits.{bit_at-zero}
use Rattle.graphql_rules_merging.specs.Numbers.{has_number}
use Rattle.graphql_rules_merging.specs.PairTables.{words_at, has_pair, SamePairs, AreListed}

abbrev Table : Type 0
Table = List (List ℕ)

pub no_row : (table : Table) (k : ℕ) → None ≡ slice_get table k → words_at table k ≡ []
no_row table k e = sym (unwrap_or-slice_get table k []) ∙ ap (λ o. unwrap_or o []) (sym e)

pub no_number : (n : ℕ) → has_number [] n ≡ false
no_number n = ap (λ b. eqb b 1) (bit_at-zero (n % 64))

-- rows that may hold pairs
at-end : (rows : List ℕ) (r k : ℕ) → list_any (eqb k) (rows ++ r ∷ []) ≡ (list_any (eqb k) rows || (eqb k r || false))
at-end rows r k = list_any-append (eqb k) rows (r ∷ [])

-- a row that is empty is dropped
pub listed_less : (old new : Table) (rows : List ℕ) (r : ℕ) → AreListed old (rows ++ r ∷ []) → words_at new r ≡ [] → ((k : ℕ) → k ≢ r → words_at new k ≡ words_at old k)
    → AreListed new rows
listed_less old new rows r h empty others k some = elim (eqb_tells k r) [
  | inl e ↦ absurd (some (ap (words_at new) e.1 ∙ empty))
  | inr e ↦ elim (or_cases (list_any (eqb k) rows) (eqb k r || false) (sym (at-end rows r k) ∙ h k (λ none. some (others k e.1 ∙ none)))) [
    | inl i ↦ i
    | inr i ↦ absurd (false≢true (sym (ap (λ b. b || false) e.0) ∙ i))
  ]
]

-- where no row may hold pairs, there are none
pub none_listed : (table : Table) → AreListed table [] → (p q : ℕ) → has_pair table p q ≡ false
none_listed table h p q = cases (words_at table q) refl
  where
    cases : (ws : List ℕ) → words_at table q ≡ ws → has_number (words_at table q) p ≡ false
    cases [] e = ap (λ ws. has_number ws p) e ∙ no_number p
    cases (w ∷ ws) e = absurd (false≢true (h q (λ none. differ (sym e ∙ none))))
      where
        differ : w ∷ ws ≡ [] → ⊥
        differ e = cc

-- a row that had nothing is emptied
pub same_emptied : (old new : Table) (r : ℕ) → ((p : ℕ) → has_pair old p r ≡ false) → words_at new r ≡ [] → ((k : ℕ) → k ≢ r → words_at new k ≡ words_at old k) → SamePairs old new
same_emptied old new r none empty others p q = elim (eqb_tells q r) [
  | inl e ↦ ap (has_pair new p) e.1 ∙ ap (λ ws. has_number ws p) empty ∙ no_number p ∙ sym (none p) ∙ ap (has_pair old p) (sym e.1)
  | inr e ↦ ap (λ ws. has_number ws p) (others q e.1)
]
