-- Sums over pairs of numbers, of which the first is no greater.
use Rattle.std.proofs.Common.{◌≡◌, refl, ap, subst, ◌∙◌, arith, ℕ, zero, suc, ◌+◌, ◌-◌, ◌*◌, ◌<◌, ◌≤◌, nat_eq, Bool, true, false, cond, List, take, take_all, length, get_or, inl, inr}
use Rattle.std.specs.List.{sum_by}
use Rattle.std.proofs.lemmas.Bool.Decides.{Decides-eqb, eqb_tells}
use Rattle.std.proofs.lemmas.List.Sums.{sum_by_more}

-- the fields of a set that follow one of it, and those that are left
pub later-square : (i n c more m : ℕ) → i < n → more ≤ c + (n - (i + 1)) → 2 * c + (n - i) * (n - i) ≤ m
    → 2 * more + (n - (i + 1)) * (n - (i + 1)) ≤ m
later-square i n c more m within step so-far =
    let is : n - i ≡ (n - (i + 1)) + 1 = omega (arith, within) in
    few (n - (i + 1)) c more m step (subst (λ k. 2 * c + k * k ≤ m) is so-far)
  where
    few : (r c more m : ℕ) → more ≤ c + r → 2 * c + (r + 1) * (r + 1) ≤ m → 2 * more + r * r ≤ m
    few r c more m h k = omega (arith, h, k)

module _ (f : ℕ → ℕ → ℕ) where
  -- over the pairs of this second number, the first of which is below another
  abbrev pub row : ℕ → ℕ → ℕ
  row n zero = 0
  row n (suc p) = f p n + row n p

  -- over all pairs below a number
  abbrev pub total : ℕ → ℕ
  total zero = 0
  total (suc n) = row n (suc n) + total n

module _ (f g : ℕ → ℕ → ℕ) (fewer : (p q : ℕ) → g p q ≤ f p q) where
  rows-fewer : (n m : ℕ) → row g n m ≤ row f n m
  rows-fewer n zero = omega arith
  rows-fewer n (suc m) = let one = fewer m n in let rest = rows-fewer n m in omega (arith, one, rest)

  pub totals-fewer : (n : ℕ) → total g n ≤ total f n
  totals-fewer zero = omega arith
  totals-fewer (suc n) = let here = rows-fewer n (suc n) in let rest = totals-fewer n in omega (arith, here, rest)

  rows-less : (c p n m : ℕ) → p < m → g p n + c ≤ f p n → row g n m + c ≤ row f n m
  rows-less c p n zero h e = absurd (none p h)
    where
      none : (p : ℕ) → p < 0 → ⊥
      none p h = omega (arith, h)
  rows-less c p n (suc m) h e = elim (eqb_tells p m) [
    | inl same ↦ here (subst (λ k. g k n + c ≤ f k n) same.1 e)
    | inr other ↦ there (rows-less c p n m (below p m h other.1) e)
  ]
    where
      below : (p m : ℕ) → p < suc m → (p ≡ m → ⊥) → p < m
      below p m h other = omega (arith, h, other)

      here : g m n + c ≤ f m n → row g n (suc m) + c ≤ row f n (suc m)
      here e = let rest = rows-fewer n m in omega (arith, e, rest)

      there : row g n m + c ≤ row f n m → row g n (suc m) + c ≤ row f n (suc m)
      there e = let one = fewer m n in omega (arith, e, one)

  pub totals-less : (c p q n : ℕ) → p ≤ q → q < n → g p q + c ≤ f p q → total g n + c ≤ total f n
  totals-less c p q zero h k e = absurd (none q k)
    where
      none : (q : ℕ) → q < 0 → ⊥
      none q h = omega (arith, h)
  totals-less c p q (suc n) h k e = elim (eqb_tells q n) [
    | inl same ↦ here (subst (λ j. p ≤ j) same.1 h) (subst (λ j. g p j + c ≤ f p j) same.1 e)
    | inr other ↦ there (totals-less c p q n h (below q n k other.1) e)
  ]
    where
      below : (p m : ℕ) → p < suc m → (p ≡ m → ⊥) → p < m
      below p m h other = omega (arith, h, other)

      here : p ≤ n → g p n + c ≤ f p n → total g (suc n) + c ≤ total f (suc n)
      here h e =
          let one = rows-less c p n (suc n) (omega (arith, h)) e in
          let rest = totals-fewer n in
          omega (arith, one, rest)

      there : total g n + c ≤ total f n → total g (suc n) + c ≤ total f (suc n)
      there e = let one = rows-fewer n (suc n) in omega (arith, e, one)

-- `w`: what a number weighs
module _ (w : ℕ → ℕ) where
  -- twice what a pair weighs: a number with itself, or two
  abbrev pub weight : ℕ → ℕ → ℕ
  weight p q = cond (nat_eq p q) (w p * w p) (2 * (w p * w q))

  pub weight-one : (p q : ℕ) → p ≡ q → weight p q ≡ w p * w p
  weight-one p q e = ap (λ b. cond b (w p * w p) (2 * (w p * w q))) ((Decides-eqb p q).1 e)

  pub weight-two : (p q : ℕ) → (p ≡ q → ⊥) → weight p q ≡ 2 * (w p * w q)
  weight-two p q other = cases (nat_eq p q) refl
    where
      cases : (b : Bool) → nat_eq p q ≡ b → cond b (w p * w p) (2 * (w p * w q)) ≡ 2 * (w p * w q)
      cases true t = absurd (other ((Decides-eqb p q).0 t))
      cases false t = refl

  -- what the numbers below one weigh
  abbrev pub up-to : ℕ → ℕ
  up-to zero = 0
  up-to (suc n) = w n + up-to n

  row-weighs : (n m : ℕ) → m ≤ n → row weight n m ≡ 2 * (up-to m * w n)
  row-weighs n zero h = omega arith
  row-weighs n (suc m) h =
      let one = weight-two m n (λ e. other m n h e) in
      let rest = row-weighs n m (less m n h) in
      omega (arith, one, rest)
    where
      other : (m n : ℕ) → suc m ≤ n → m ≡ n → ⊥
      other m n h e = omega (arith, h, e)

      less : (m n : ℕ) → suc m ≤ n → m ≤ n
      less m n h = omega (arith, h)

  -- all pairs weigh the square of what the numbers do
  pub all-weigh : (n : ℕ) → total weight n ≡ up-to n * up-to n
  all-weigh zero = omega arith
  all-weigh (suc n) =
      let itself = weight-one n n refl in
      let others = row-weighs n n (omega arith) in
      let rest = all-weigh n in
      omega (arith, itself, others, rest)

module _ {X : Type 0} (v : X → ℕ) (d : X) (xs : List X) where
  first-weigh : (n : ℕ) → n ≤ length xs → up-to (λ k. v (get_or xs k d)) n ≡ sum_by v (take n xs)
  first-weigh zero h = refl
  first-weigh (suc n) h =
      let more = sum_by_more v xs n d h in
      let rest = first-weigh n (less n (length xs) h) in
      let one = ap (λ k. sum_by v (take k xs)) (next n) in
      omega (arith, one, more, rest)
    where
      next : (n : ℕ) → suc n ≡ n + 1
      next n = omega arith

      less : (m n : ℕ) → suc m ≤ n → m ≤ n
      less m n h = omega (arith, h)

  -- the places of a list weigh what the list does
  pub places-weigh : up-to (λ k. v (get_or xs k d)) (length xs) ≡ sum_by v xs
  places-weigh = first-weigh (length xs) (omega arith) ∙ ap (sum_by v) (take_all (length xs) xs (omega arith))
