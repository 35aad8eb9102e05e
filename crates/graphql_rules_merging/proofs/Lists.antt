-- What lists of items and of pairs of items contain.
use Rattle.std.proofs.Common.{◌≡◌, refl, ap, sym, subst, ◌∙◌, arith, List, [], ◌∷◌, map, ◌⊎◌, inl, inr}
use Rattle.std.specs.List.{Contains}
use Rattle.std.proofs.lemmas.List.Elements.{Contains-append_left, Contains-append_right, Contains-append_cases}
use Rattle.graphql_merging.proofs.Nested.{one-only, in-nothing}
use Rattle.graphql_rules_merging.specs.Comparing.{with_each, between, later}

module _ {X : Type 0} where
  pub here : (x : X) (xs : List X) → Contains (x ∷ xs) x
  here x xs = (0, omega arith, refl)

  pub there : (x : X) (xs : List X) (y : X) → Contains xs y → Contains (x ∷ xs) y
  there x xs y h = Contains-append_right (x ∷ []) xs y h

  pub first_or_rest : (x : X) (xs : List X) (y : X) → Contains (x ∷ xs) y → (x ≡ y) ⊎ Contains xs y
  first_or_rest x xs y h = elim (Contains-append_cases (x ∷ []) xs y h) [ inl i ↦ inl (one-only x y i) | inr i ↦ inr i ]

module _ {A B : Type 0} (f : A → B) where
  pub map_has : (xs : List A) (a : A) → Contains xs a → Contains (map f xs) (f a)
  map_has [] a h = in-nothing a h
  map_has (x ∷ xs) a h = elim (first_or_rest x xs a h) [
    | inl e ↦ subst (λ z. Contains (map f (x ∷ xs)) (f z)) e (here (f x) (map f xs))
    | inr i ↦ there (f x) (map f xs) (f a) (map_has xs a i)
  ]

  pub map_of : (xs : List A) (b : B) → Contains (map f xs) b → (a : A) × Contains xs a × (f a ≡ b)
  map_of [] b h = in-nothing b h
  map_of (x ∷ xs) b h = elim (first_or_rest (f x) (map f xs) b h) [
    | inl e ↦ (x, here x xs, e)
    | inr i ↦ (let r = map_of xs b i in (r.0, there x xs r.0 r.1, r.2))
  ]

module _ {X : Type 0} where
  pub with_each_has : (x : X) (ys : List X) (y : X) → Contains ys y → Contains (with_each x ys) (x, y)
  with_each_has x ys y h = map_has {B = X × X} (λ z. (x, z)) ys y h

  pub with_each_of : (x : X) (ys : List X) (p : X × X) → Contains (with_each x ys) p → (x ≡ p.0) × Contains ys p.1
  with_each_of x ys p h =
      let r = map_of {B = X × X} (λ z. (x, z)) ys p h in
      (ap (λ (q : X × X). q.0) r.2, subst (Contains ys) (ap (λ (q : X × X). q.1) r.2) r.1)

  pub between_has : (xs ys : List X) (x y : X) → Contains xs x → Contains ys y → Contains (between xs ys) (x, y)
  between_has [] ys x y h k = in-nothing x h
  between_has (z ∷ xs) ys x y h k = elim (first_or_rest z xs x h) [
    | inl e ↦ Contains-append_left (with_each z ys) (between xs ys) (x, y) (subst (λ w. Contains (with_each z ys) (w, y)) e (with_each_has z ys y k))
    | inr i ↦ Contains-append_right (with_each z ys) (between xs ys) (x, y) (between_has xs ys x y i k)
  ]

  pub between_of : (xs ys : List X) (p : X × X) → Contains (between xs ys) p → Contains xs p.0 × Contains ys p.1
  between_of [] ys p h = in-nothing p h
  between_of (z ∷ xs) ys p h = elim (Contains-append_cases (with_each z ys) (between xs ys) p h) [
    | inl i ↦ (let r = with_each_of z ys p i in (subst (Contains (z ∷ xs)) r.0 (here z xs), r.1))
    | inr i ↦ (let r = between_of xs ys p i in (there z xs p.0 r.0, r.1))
  ]

  pub later_of : (xs : List X) (p : X × X) → Contains (later xs) p → Contains xs p.0 × Contains xs p.1
  later_of [] p h = in-nothing p h
  later_of (z ∷ xs) p h = elim (Contains-append_cases (with_each z xs) (later xs) p h) [
    | inl i ↦ (let r = with_each_of z xs p i in (subst (Contains (z ∷ xs)) r.0 (here z xs), there z xs p.1 r.1))
    | inr i ↦ (let r = later_of xs p i in (there z xs p.0 r.0, there z xs p.1 r.1))
  ]

  -- of two items of a list one stands later, or they are one
  pub later_cases : (xs : List X) (a b : X) → Contains xs a → Contains xs b → (a ≡ b) ⊎ (Contains (later xs) (a, b) ⊎ Contains (later xs) (b, a))
  later_cases [] a b h k = in-nothing a h
  later_cases (z ∷ xs) a b h k = both (first_or_rest z xs a h) (first_or_rest z xs b k) (λ i j. later_cases xs a b i j)
    where
      first : (y : X) → Contains xs y → Contains (later (z ∷ xs)) (z, y)
      first y i = Contains-append_left (with_each z xs) (later xs) (z, y) (with_each_has z xs y i)

      both : (z ≡ a) ⊎ Contains xs a → (z ≡ b) ⊎ Contains xs b → (Contains xs a → Contains xs b → (a ≡ b) ⊎ (Contains (later xs) (a, b) ⊎ Contains (later xs) (b, a)))
          → (a ≡ b) ⊎ (Contains (later (z ∷ xs)) (a, b) ⊎ Contains (later (z ∷ xs)) (b, a))
      both (inl e) (inl f) rest = inl (sym e ∙ f)
      both (inl e) (inr j) rest = inr (inl (subst (λ w. Contains (later (z ∷ xs)) (w, b)) e (first b j)))
      both (inr i) (inl f) rest = inr (inr (subst (λ w. Contains (later (z ∷ xs)) (w, a)) f (first a i)))
      both (inr i) (inr j) rest = elim (rest i j) [
        | inl e ↦ inl e
        | inr o ↦ elim o [
          | inl l ↦ inr (inl (Contains-append_right (with_each z xs) (later xs) (a, b) l))
          | inr l ↦ inr (inr (Contains-append_right (with_each z xs) (later xs) (b, a) l))
        ]
      ]
