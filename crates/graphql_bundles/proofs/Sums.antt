-- Sums: of squares, over places of a list, and over classes.
use Rattle.std.proofs.Common.{◌≡◌, refl, ap, sym, subst, ◌∙◌, arith, ℕ, zero, suc, ◌+◌, ◌*◌, ◌<◌, ◌≤◌, nat_eq, Bool, true, false, cond, List, [], ◌∷◌, filter, length, get_or, set, take, inl, inr}
use Rattle.std.specs.List.{sum_by, count_by, IsDistinct, AllByRecursion}
use Rattle.std.specs.Cmp.{IsEquivalence}
use Rattle.std.proofs.lemmas.Bool.{cases_lt, false≢true}
use Rattle.std.proofs.lemmas.Bool.Decides.{Decides-eqb}
use Rattle.std.proofs.lemmas.List.{get_or-set_other, get_or_past}
use Rattle.std.proofs.lemmas.List.Sums.{sum_by-cons, sum_by-set, sum_by_more}
use Rattle.std.proofs.lemmas.Map.Keys.{IsDistinct-head, IsDistinct-tail}

-- one class: a field compared with the first of it, or with the others
pub class-square : (a b n : ℕ) → a + b ≡ n + 1 → b ≤ n → n + a * b + b * b ≤ (1 + n) * (1 + n)
class-square zero b n e few = absurd (none b n e few)
  where
    none : (b n : ℕ) → 0 + b ≡ n + 1 → b ≤ n → ⊥
    none b n e few = omega (arith, e, few)
class-square (suc k) b n e few = subst (λ m. m + suc k * b + b * b ≤ (1 + m) * (1 + m)) (is k b n e) (omega arith)
  where
    is : (k b n : ℕ) → suc k + b ≡ n + 1 → k + b ≡ n
    is k b n e = omega (arith, e)

-- the squares of two are no more than that of both
pub square-of-both : (s g : ℕ) → s * s + g * g ≤ (s + g) * (s + g)
square-of-both s g = omega arith

-- one part more, of which there are no more comparisons than its square
pub more-squares : {X : Type 0} (size : X → ℕ) (xs : List X) (i : ℕ) (x : X) (start old new : ℕ) → i < length xs → x ≡ get_or xs i x
    → old ≤ start + sum_by size (take i xs) * sum_by size (take i xs) → new ≤ old + size x * size x
    → new ≤ start + sum_by size (take (i + 1) xs) * sum_by size (take (i + 1) xs)
more-squares size xs i x start old new within is so-far step =
    let whole = sum_by_more size xs i x within ∙ ap (λ k. sum_by size (take i xs) + size k) (sym is) in
    subst (λ k. new ≤ start + k * k) (sym whole) (both (sum_by size (take i xs)) (size x) start old new so-far step)
  where
    both : (s g start old new : ℕ) → old ≤ start + s * s → new ≤ old + g * g → new ≤ start + (s + g) * (s + g)
    both s g start old new h k = let squares = square-of-both s g in omega (arith, h, k, squares)

module _ {X : Type 0} where
  pub same-sums : (f h : X → ℕ) (xs : List X) → AllByRecursion (λ x. f x ≡ h x) xs → sum_by f xs ≡ sum_by h xs
  same-sums f h [] all = refl
  same-sums f h (x ∷ xs) all =
      sum_by-cons f x xs ∙ (λ i. all.0 i + same-sums f h xs all.1 i) ∙ sym (sum_by-cons h x xs)

-- places that are all different: what weighs nothing stands where there is none
module _ {X : Type 0} (w : X → ℕ) (d : X) (none : w d ≡ 0) where
  pub at-places : (ks : List ℕ) (xs : List X) → IsDistinct nat_eq ks → sum_by (λ k. w (get_or xs k d)) ks ≤ sum_by w xs
  at-places [] xs apart = omega arith
  at-places (k ∷ ks) xs apart = elim (cases_lt k (length xs)) [
    | inl h ↦ within h (at-places ks (set xs k d) (IsDistinct-tail nat_eq k ks apart))
    | inr h ↦ past h (at-places ks xs (IsDistinct-tail nat_eq k ks apart))
  ]
    where
      cut : sum_by (λ j. w (get_or xs j d)) (k ∷ ks) ≡ w (get_or xs k d) + sum_by (λ j. w (get_or xs j d)) ks
      cut = sum_by-cons (λ j. w (get_or xs j d)) k ks

      others : (js : List ℕ) → AllByRecursion (λ j. nat_eq k j ≡ false) js
          → AllByRecursion (λ j. w (get_or xs j d) ≡ w (get_or (set xs k d) j d)) js
      others [] h = tt
      others (j ∷ js) h =
          (ap w (sym (get_or-set_other xs k j d d (λ e. false≢true (sym h.0 ∙ (Decides-eqb k j).1 (sym e))))), others js h.1)

      within : k < length xs → sum_by (λ j. w (get_or (set xs k d) j d)) ks ≤ sum_by w (set xs k d)
          → sum_by (λ j. w (get_or xs j d)) (k ∷ ks) ≤ sum_by w xs
      within h less =
          let taken = sum_by-set w xs k d d h in
          let same = same-sums (λ j. w (get_or xs j d)) (λ j. w (get_or (set xs k d) j d)) ks (others ks (IsDistinct-head nat_eq k ks apart)) in
          omega (arith, taken, same, less, cut, none)

      past : length xs ≤ k → sum_by (λ j. w (get_or xs j d)) ks ≤ sum_by w xs
          → sum_by (λ j. w (get_or xs j d)) (k ∷ ks) ≤ sum_by w xs
      past h less =
          let nothing = ap w (get_or_past xs k d h) in
          omega (arith, nothing, less, cut, none)

-- classes by a key: each item is in one of them at most
module _ {X K : Type 0} (eq : K → K → Bool) (same : IsEquivalence eq) (key : X → K) where
  -- how many items are of the class
  abbrev in_class : List X → K → ℕ
  in_class xs n = length (filter (λ x. eq (key x) n) xs)

  none-more : (x : X) (n : K) (ns : List K) → eq (key x) n ≡ true → AllByRecursion (λ m. eq n m ≡ false) ns → count_by (λ m. eq (key x) m) ns ≡ 0
  none-more x n [] e apart = refl
  none-more x n (m ∷ ms) e apart =
      sum_by-cons (λ j. cond (eq (key x) j) 1 0) m ms
      ∙ (λ i. cond (differs i) 1 0 + none-more x n ms e apart.1 i)
    where
      differs : eq (key x) m ≡ false
      differs = same.congr (key x) n m e ∙ apart.0

  one-class : (x : X) (ns : List K) → IsDistinct eq ns → count_by (λ m. eq (key x) m) ns ≤ 1
  one-class x [] apart = omega arith
  one-class x (n ∷ ns) apart = cases (one-class x ns (IsDistinct-tail eq n ns apart)) (eq (key x) n) refl
    where
      cut : count_by (λ m. eq (key x) m) (n ∷ ns) ≡ cond (eq (key x) n) 1 0 + count_by (λ m. eq (key x) m) ns
      cut = sum_by-cons (λ j. cond (eq (key x) j) 1 0) n ns

      cases : count_by (λ m. eq (key x) m) ns ≤ 1 → (q : Bool) → eq (key x) n ≡ q
          → count_by (λ m. eq (key x) m) (n ∷ ns) ≤ 1
      cases few true t =
          let one = cut ∙ ap (λ q. cond q 1 0 + count_by (λ m. eq (key x) m) ns) t in
          let rest = none-more x n ns t (IsDistinct-head eq n ns apart) in
          omega (arith, one, rest)
      cases few false t =
          let none = cut ∙ ap (λ q. cond q 1 0 + count_by (λ m. eq (key x) m) ns) t in
          omega (arith, none, few)

  nothing-in : (ns : List K) → sum_by (in_class []) ns ≡ 0
  nothing-in [] = refl
  nothing-in (n ∷ ns) =
      let cut = sum_by-cons (in_class []) n ns in
      let rest = nothing-in ns in
      omega (arith, cut, rest)

  more-in : (x : X) (xs : List X) (ns : List K) → sum_by (in_class (x ∷ xs)) ns ≡ count_by (λ m. eq (key x) m) ns + sum_by (in_class xs) ns
  more-in x xs [] = refl
  more-in x xs (n ∷ ns) =
      let cut = sum_by-cons (in_class (x ∷ xs)) n ns in
      let counted = sum_by-cons (λ j. cond (eq (key x) j) 1 0) n ns in
      let before = sum_by-cons (in_class xs) n ns in
      let ih = more-in x xs ns in
      let it = first (eq (key x) n) in
      omega (arith, cut, counted, before, ih, it)
    where
      first : (q : Bool) → length (cond q (x ∷ filter (λ y. eq (key y) n) xs) (filter (λ y. eq (key y) n) xs)) ≡ cond q 1 0 + length (filter (λ y. eq (key y) n) xs)
      first true = omega arith
      first false = omega arith

  pub in-classes : (xs : List X) (ns : List K) → IsDistinct eq ns → sum_by (in_class xs) ns ≤ length xs
  in-classes [] ns apart = let e = nothing-in ns in omega (arith, e)
  in-classes (x ∷ xs) ns apart =
      let all = more-in x xs ns in
      let one = one-class x ns apart in
      let rest = in-classes xs ns apart in
      omega (arith, all, one, rest)
