-- Sets of numbers as bits of words.
use Rattle.std.proofs.Common.{◌≡◌, ◌≢◌, refl, ap, ap₂, sym, ◌∙◌, arith, ℕ, ◌+◌, ◌-◌, ◌*◌, ◌/◌, ◌%◌, ◌^◌, ◌<◌, eqb, Bool, true, false, not, ◌&&◌, ◌||◌, List, [], ◌∷◌, ◌++◌, zero, suc, Option, Some, None, slice_get, MatchOption, unwrap_or, length, set, get_or, bit_and, bit_or, inl, inr}
use Rattle.std.specs.Int.{bit_at, bit_not, trailing_zeros, w64}
use Rattle.std.proofs.lemmas.Bool.Decides.{Decides-eqb, eqb_tells}
use Rattle.std.proofs.lemmas.List.{get_or-set_same, get_or-set_other, length_push, get_or_push}
use Rattle.std.proofs.lemmas.Option.{get_or_from_slice_get, slice_get-get_or, unwrap_or-slice_get}
use Rattle.std.proofs.lemmas.Nat.{div-add-mod', div-mul-add, mod-mul-add, mod_below}
use Rattle.std.proofs.lemmas.Nat.Bits.{bit_at_set_same, bit_at_set_other, bit_at_clear_same, bit_at_clear_other, bit_at-trailing_zeros, bit_at-zero}
use Rattle.graphql_rules_merging.specs.Numbers.{has_number}

-- the bit of a place and a place in it
abbrev pub has_bit : List ℕ → ℕ → ℕ → Bool
has_bit words place bit = eqb (bit_at (get_or words place 0) bit) 1

pub some_word : (words : List ℕ) (place bit word : ℕ) → Some word ≡ slice_get words place → has_bit words place bit ≡ eqb (bit_at word bit) 1
some_word words place bit word e = ap (λ w. eqb (bit_at w bit) 1) (get_or_from_slice_get words place word 0 (sym e))

pub no_word : (words : List ℕ) (place bit : ℕ) → None ≡ slice_get words place → has_bit words place bit ≡ false
no_word words place bit e =
    ap (λ w. eqb (bit_at w bit) 1) (sym (unwrap_or-slice_get words place 0) ∙ ap (λ o. unwrap_or o 0) (sym e)) ∙ ap (λ b. eqb b 1) (bit_at-zero bit)

-- a zero more at the end is not seen
pub zero_more : {A : Type 0} (xs : List A) (d : A) (k : ℕ) → get_or (xs ++ d ∷ []) k d ≡ get_or xs k d
zero_more [] d zero = refl
zero_more [] d (suc k) = refl
zero_more (x ∷ xs) d zero = refl
zero_more (x ∷ xs) d (suc k) = zero_more xs d k

below-64 : (n : ℕ) → n % 64 < 64
below-64 n = mod_below n 64 (omega arith)

from-parts : (n m : ℕ) → n / 64 ≡ m / 64 → n % 64 ≡ m % 64 → n ≡ m
from-parts n m e f = sym (div-add-mod' n 64) ∙ ap₂ (λ x y. x * 64 + y) e f ∙ div-add-mod' m 64

-- one word is set
module _ (words : List ℕ) (place word : ℕ) (within : place < length words) where
  set-here : (bit : ℕ) → has_bit (set words place word) place bit ≡ eqb (bit_at word bit) 1
  set-here bit = ap (λ w. eqb (bit_at w bit) 1) (get_or-set_same words place word 0 within)

  set-elsewhere : (k bit : ℕ) → k ≢ place → has_bit (set words place word) k bit ≡ has_bit words k bit
  set-elsewhere k bit differs = ap (λ w. eqb (bit_at w bit) 1) (get_or-set_other words place k word 0 differs)

-- a number beside another: it is the number, or has its word and another bit, or another word
data IsBeside (n number : ℕ) : Type 0 where
  is_it : n ≡ number → eqb n number ≡ true → IsBeside n number
  in_word : n / 64 ≡ number / 64 → n % 64 ≢ number % 64 → eqb n number ≡ false → IsBeside n number
  elsewhere : n / 64 ≢ number / 64 → eqb n number ≡ false → IsBeside n number

not-it : (n number : ℕ) → (n ≡ number → ⊥) → eqb n number ≡ false
not-it n number d = elim (eqb_tells n number) [ inl e ↦ absurd (d e.1) | inr e ↦ e.0 ]

beside : (n number : ℕ) → IsBeside n number
beside n number = elim (eqb_tells (n / 64) (number / 64)) [
  | inl e ↦ elim (eqb_tells (n % 64) (number % 64)) [
    | inl f ↦ is_it (from-parts n number e.1 f.1) ((Decides-eqb n number).1 (from-parts n number e.1 f.1))
    | inr f ↦ in_word e.1 f.1 (not-it n number (λ i. f.1 (ap (λ m. m % 64) i)))
  ]
  | inr e ↦ elsewhere e.1 (not-it n number (λ i. e.1 (ap (λ m. m / 64) i)))
]

-- the bit of a number is set
module _ (words : List ℕ) (number word : ℕ) (within : number / 64 < length words) (is : get_or words (number / 64) 0 ≡ word) where
  abbrev more : ℕ
  more = bit_or word (1 * 2 ^ (number % 64) % 2 ^ 64)

  there : (bit : ℕ) → eqb (bit_at word bit) 1 ≡ has_bit words (number / 64) bit
  there bit = ap (λ w. eqb (bit_at w bit) 1) (sym is)

  pub added : (n : ℕ) → has_number (set words (number / 64) more) n ≡ (eqb n number || has_number words n)
  added n = cases (beside n number)
    where
      cases : IsBeside n number → has_number (set words (number / 64) more) n ≡ (eqb n number || has_number words n)
      cases (is_it e t) =
          ap (has_number (set words (number / 64) more)) e ∙ set-here words (number / 64) more within (number % 64)
          ∙ ap (λ d. eqb d 1) (bit_at_set_same w64 word (number % 64) (below-64 number)) ∙ ap (λ y. y || has_number words n) (sym t)
      cases (in_word e d t) =
          ap (λ k. has_bit (set words (number / 64) more) k (n % 64)) e ∙ set-here words (number / 64) more within (n % 64)
          ∙ ap (λ b. eqb b 1) (bit_at_set_other w64 word (number % 64) (below-64 number) (n % 64) d) ∙ there (n % 64) ∙ ap (λ k. has_bit words k (n % 64)) (sym e)
          ∙ ap (λ y. y || has_number words n) (sym t)
      cases (elsewhere d t) = set-elsewhere words (number / 64) more within (n / 64) (n % 64) d ∙ ap (λ y. y || has_number words n) (sym t)

-- the bit of a number that is set is set no longer
module _ (words : List ℕ) (place word : ℕ) (within : place < length words) (is : get_or words place 0 ≡ word) (some : 0 < word) (fits : word < 2 ^ 64) where
  abbrev bit : ℕ
  bit = trailing_zeros w64 word

  abbrev less : ℕ
  less = bit_and word (bit_not w64 (1 * 2 ^ bit % 2 ^ 64))

  small : bit < 64
  small = (bit_at-trailing_zeros w64 word some fits).0

  in-place : (place * 64 + bit) / 64 ≡ place
  in-place = div-mul-add place 64 bit small

  in-word : (place * 64 + bit) % 64 ≡ bit
  in-word = mod-mul-add place 64 bit small

  pub was_in : has_number words (place * 64 + bit) ≡ true
  was_in = (λ i. has_bit words (in-place i) (in-word i)) ∙ ap (λ w. eqb (bit_at w bit) 1) is ∙ ap (λ d. eqb d 1) (bit_at-trailing_zeros w64 word some fits).1

  pub taken_out : (n : ℕ) → has_number (set words place less) n ≡ (not (eqb n (place * 64 + bit)) && has_number words n)
  taken_out n = cases (beside n (place * 64 + bit))
    where
      kept : eqb n (place * 64 + bit) ≡ false → has_number words n ≡ (not (eqb n (place * 64 + bit)) && has_number words n)
      kept t = ap (λ y. not y && has_number words n) (sym t)

      cases : IsBeside n (place * 64 + bit) → has_number (set words place less) n ≡ (not (eqb n (place * 64 + bit)) && has_number words n)
      cases (is_it e t) =
          ap (has_number (set words place less)) e ∙ (λ i. has_bit (set words place less) (in-place i) (in-word i)) ∙ set-here words place less within bit
          ∙ ap (λ d. eqb d 1) (bit_at_clear_same w64 word bit small) ∙ ap (λ y. not y && has_number words n) (sym t)
      cases (in_word e d t) =
          let here : n / 64 ≡ place = e ∙ in-place in
          ap (λ k. has_bit (set words place less) k (n % 64)) here ∙ set-here words place less within (n % 64)
          ∙ ap (λ b. eqb b 1) (bit_at_clear_other w64 word bit small (n % 64) (below-64 n) (λ i. d (i ∙ sym in-word))) ∙ ap (λ w. eqb (bit_at w (n % 64)) 1) (sym is)
          ∙ ap (λ k. has_bit words k (n % 64)) (sym here) ∙ kept t
      cases (elsewhere d t) = set-elsewhere words place less within (n / 64) (n % 64) (λ i. d (i ∙ sym in-place)) ∙ kept t

-- words that are read alike have the same numbers
pub same_numbers : (words others : List ℕ) → ((k : ℕ) → get_or words k 0 ≡ get_or others k 0) → (n : ℕ) → has_number words n ≡ has_number others n
same_numbers words others same n = ap (λ w. eqb (bit_at w (n % 64)) 1) (same (n / 64))

-- the last item, and what is left without it
pub popped : (o : Option ℕ) (old new : List ℕ) (last : ℕ) → MatchOption o ((old ≡ []) × (new ≡ [])) (λ x. old ≡ new ++ x ∷ []) → Some last ≡ slice_get old (length old - 1)
    → old ≡ new ++ last ∷ []
popped None old new last h e = absurd (none (e ∙ ap (λ xs. slice_get xs (length xs - 1)) h.0))
  where
    none : Some last ≡ None → ⊥
    none e = cc
popped (Some x) old new last h e = h ∙ ap (λ y. new ++ y ∷ []) same
  where
    longer : length old ≡ length new + 1
    longer = ap length h ∙ length_push new x

    same : x ≡ last
    same = sym (get_or_push new x 0 (length old - 1) (omega (arith, longer))) ∙ ap (λ xs. get_or xs (length old - 1) 0) (sym h) ∙ get_or_from_slice_get old (length old - 1) last 0 (sym e)

pub no_last : {A : Type 0} (xs : List A) → None ≡ slice_get xs (length xs - 1) → xs ≡ []
no_last [] e = refl
no_last {A = A} (x ∷ xs) e = absurd (none (e ∙ slice_get-get_or (x ∷ xs) (length (x ∷ xs) - 1) x (omega arith)))
  where
    none : {y : A} → None ≡ Some y → ⊥
    none e = cc
