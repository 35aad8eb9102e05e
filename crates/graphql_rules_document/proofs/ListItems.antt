-- Items of lists.
use Rattle.std.proofs.Common.{◌≡◌, refl, ap, subst, ℕ, zero, suc, ◌<◌, arith, List, [], ◌∷◌, ◌++◌, map, get_or, inl, inr}
use Rattle.std.specs.List.{All, Contains}
use Rattle.std.proofs.lemmas.List.Elements.{Contains-append_right, Contains-append_cases}

pub nothing-in : {X : Type 0} {A : Type 0} (x : X) → Contains [] x → A
nothing-in x h = absurd (omega (arith, h.1))

pub only-one : {X : Type 0} (x y : X) → Contains (x ∷ []) y → x ≡ y
only-one x y h = at h.0 h.1 h.2
  where
    at : (k : ℕ) → k < 1 → get_or (x ∷ []) k y ≡ y → x ≡ y
    at zero lt e = e
    at (suc k) lt e = absurd (omega (arith, lt))

pub contains-map : {X Y : Type 0} (g : X → Y) (xs : List X) (x : X) → Contains xs x → Contains (map g xs) (g x)
contains-map g [] x i = nothing-in x i
contains-map g (y ∷ ys) x i = elim (Contains-append_cases (y ∷ []) ys x i) [
  | inl j ↦ (0, omega arith, ap g (only-one y x j))
  | inr j ↦ Contains-append_right (g y ∷ []) (map g ys) (g x) (contains-map g ys x j)
]

-- an item of a mapped list is the image of one
pub image-of : {X Y : Type 0} (g : X → Y) (xs : List X) (y : Y) → Contains (map g xs) y → (x : X) × Contains xs x × (g x ≡ y)
image-of g [] y i = nothing-in y i
image-of g (x ∷ xs) y i = elim (Contains-append_cases (g x ∷ []) (map g xs) y i) [
  | inl j ↦ (x, (0, omega arith, refl), only-one (g x) y j)
  | inr j ↦ (let r = image-of g xs y j in (r.0, Contains-append_right (x ∷ []) xs r.0 r.1, r.2))
]

module _ {X : Type 0} (P : X → Type 0) where
  pub all-left : (xs ys : List X) → All P (xs ++ ys) → All P xs
  all-left [] ys h k d within = absurd (omega (arith, within))
  all-left (x ∷ xs) ys h zero d within = h 0 d (omega arith)
  all-left (x ∷ xs) ys h (suc k) d within = all-left xs ys (λ k d w. h (suc k) d (omega (arith, w))) k d (omega (arith, within))

  pub all-right : (xs ys : List X) → All P (xs ++ ys) → All P ys
  all-right [] ys h = h
  all-right (x ∷ xs) ys h = all-right xs ys (λ k d w. h (suc k) d (omega (arith, w)))

  pub all-first : (x : X) (xs : List X) → All P (x ∷ xs) → P x
  all-first x xs h = h 0 x (omega arith)

  pub all-after : (x : X) (xs : List X) → All P (x ∷ xs) → All P xs
  all-after x xs h = λ k d w. h (suc k) d (omega (arith, w))

  pub all-from : (xs : List X) → ((x : X) → Contains xs x → P x) → All P xs
  all-from [] h k d within = absurd (omega (arith, within))
  all-from (x ∷ xs) h zero d within = h x (0, omega arith, refl)
  all-from (x ∷ xs) h (suc k) d within = all-from xs (λ y i. h y (Contains-append_right (x ∷ []) xs y i)) k d (omega (arith, within))

  pub all-of : (xs : List X) → All P xs → (x : X) → Contains xs x → P x
  all-of xs h x i = subst P i.2 (h i.0 x i.1)
