-- Elements of lists.
use Rattle.std.proofs.Common.{◌<◌, ◌⊎◌, ⊎_elim, inl, inr, ◌≡◌, refl, sym, subst, arith, List, [], ◌∷◌, ◌++◌, map}
use Rattle.std.specs.List.{Contains}
use Rattle.std.proofs.lemmas.List.Elements.{Contains-append_left, Contains-append_right, Contains-append_cases, Contains-push, Contains-push_cases}

module _ {A : Type 0} where
  pub here : (x : A) (xs : List A) → Contains (x ∷ xs) x
  here x xs = Contains-append_left (x ∷ []) xs x (Contains-push [] x)

  pub later : (x y : A) (xs : List A) → Contains xs y → Contains (x ∷ xs) y
  later x y xs h = Contains-append_right (x ∷ []) xs y h

  pub none-in : {P : Type 0} (y : A) → Contains [] y → P
  none-in y h = absurd (let less : h.0 < 0 = h.1 in omega (arith, less))

  pub cons-cases : (x y : A) (xs : List A) → Contains (x ∷ xs) y → (x ≡ y) ⊎ Contains xs y
  cons-cases x y xs h = ⊎_elim (λ one. ⊎_elim (λ no. none-in y no) (λ e. inl e) (Contains-push_cases [] x y one)) (λ c. inr c) (Contains-append_cases (x ∷ []) xs y h)

  pub only-one : (x y : A) → Contains (x ∷ []) y → x ≡ y
  only-one x y h = ⊎_elim (λ e. e) (λ no. none-in y no) (cons-cases x y [] h)
