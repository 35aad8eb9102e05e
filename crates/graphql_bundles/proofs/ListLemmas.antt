-- What lists contain.
use Rattle.std.proofs.Common.{◌≡◌, refl, ap, sym, subst, ◌∙◌, arith, ℕ, ◌+◌, ◌<◌, ◌≤◌, zero, suc, Bool, true, false, cond, List, [], ◌∷◌, ◌++◌, map, filter, take, length, get_or, slice_get, Some, None, ◌⊎◌, inl, inr, append-nil}
use Rattle.std.specs.List.{Contains, flat_map}
use Rattle.std.proofs.lemmas.Bool.{false≢true}
use Rattle.std.proofs.lemmas.Grind.{flat_map-append}
use Rattle.std.proofs.lemmas.List.{take_more}
use Rattle.std.proofs.lemmas.List.Elements.{Contains-append_left, Contains-append_right, Contains-append_cases, filter-append}
use Rattle.std.proofs.lemmas.Option.{slice_get_within, get_or_from_slice_get}
use Rattle.graphql_merging.proofs.Nested.{one-only, in-nothing}

module _ {X : Type 0} where
  pub here : (x : X) (xs : List X) → Contains (x ∷ xs) x
  here x xs = (0, omega arith, refl)

  pub there : (x : X) (xs : List X) (y : X) → Contains xs y → Contains (x ∷ xs) y
  there x xs y h = Contains-append_right (x ∷ []) xs y h

  pub first_or_rest : (x : X) (xs : List X) (y : X) → Contains (x ∷ xs) y → (x ≡ y) ⊎ Contains xs y
  first_or_rest x xs y h = elim (Contains-append_cases (x ∷ []) xs y h) [ inl i ↦ inl (one-only x y i) | inr i ↦ inr i ]

  -- the first items, with the one that follows
  pub take-one : (xs : List X) (i : ℕ) (x : X) → i < length xs → x ≡ get_or xs i x → take i xs ++ x ∷ [] ≡ take (i + 1) xs
  take-one xs i x within is = sym (take_more xs i x within ∙ ap (λ z. take i xs ++ z ∷ []) (sym is))

  -- an item of the first ones, and of the one that follows
  pub take-cases : (xs : List X) (i : ℕ) (x : X) → i < length xs → x ≡ get_or xs i x → (y : X) → Contains (take (i + 1) xs) y
      → Contains (take i xs) y ⊎ (x ≡ y)
  take-cases xs i x within is y h =
      elim (Contains-append_cases (take i xs) (x ∷ []) y (subst (λ ys. Contains ys y) (sym (take-one xs i x within is)) h)) [
        | inl j ↦ inl j
        | inr j ↦ inr (one-only x y j)
      ]

  pub at-place : (xs : List X) (i : ℕ) (x : X) → i < length xs → x ≡ get_or xs i x → Contains xs x
  at-place xs i x within is = (i, within, sym is)

  pub found-at : (xs : List X) (i : ℕ) (x : X) → slice_get xs i ≡ Some x → Contains xs x
  found-at xs i x e = (i, slice_get_within xs i x e, get_or_from_slice_get xs i x x e)

  pub none-first : (xs : List X) → slice_get xs 0 ≡ None → xs ≡ []
  none-first [] e = refl
  none-first (x ∷ xs) e = absurd (some e)
    where
      some : Some x ≡ None → ⊥
      some e = cc

  -- where there is no item, the list is at its end
  pub past-end : (xs : List X) (i : ℕ) → slice_get xs i ≡ None → length xs ≤ i
  past-end [] i e = omega arith
  past-end (x ∷ xs) zero e = absurd (some e)
    where
      some : Some x ≡ None → ⊥
      some e = cc
  past-end (x ∷ xs) (suc i) e = let h = past-end xs i e in omega (arith, h)

module _ {A B : Type 0} (f : A → B) where
  pub map_has : (xs : List A) (a : A) → Contains xs a → Contains (map f xs) (f a)
  map_has [] a h = in-nothing a h
  map_has (x ∷ xs) a h = elim (first_or_rest x xs a h) [
    | inl e ↦ subst (λ z. Contains (map f (x ∷ xs)) (f z)) e (here (f x) (map f xs))
    | inr i ↦ there (f x) (map f xs) (f a) (map_has xs a i)
  ]

  pub map_of : (xs : List A) (b : B) → Contains (map f xs) b → (a : A) × Contains xs a × (f a ≡ b)
  map_of [] b h = in-nothing b h
  map_of (x ∷ xs) b h = elim (first_or_rest (f x) (map f xs) b h) [
    | inl e ↦ (x, here x xs, e)
    | inr i ↦ (let r = map_of xs b i in (r.0, there x xs r.0 r.1, r.2))
  ]

module _ {A B : Type 0} (f : A → List B) where
  pub flat_has : (xs : List A) (a : A) (b : B) → Contains xs a → Contains (f a) b → Contains (flat_map f xs) b
  flat_has [] a b h k = in-nothing a h
  flat_has (x ∷ xs) a b h k = elim (first_or_rest x xs a h) [
    | inl e ↦ Contains-append_left (f x) (flat_map f xs) b (subst (λ z. Contains (f z) b) (sym e) k)
    | inr i ↦ Contains-append_right (f x) (flat_map f xs) b (flat_has xs a b i k)
  ]

  pub flat_of : (xs : List A) (b : B) → Contains (flat_map f xs) b → (a : A) × Contains xs a × Contains (f a) b
  flat_of [] b h = in-nothing b h
  flat_of (x ∷ xs) b h = elim (Contains-append_cases (f x) (flat_map f xs) b h) [
    | inl i ↦ (x, here x xs, i)
    | inr i ↦ (let r = flat_of xs b i in (r.0, there x xs r.0 r.1, r.2))
  ]

-- one item more
pub flat-more : {A B : Type 0} (f : A → List B) (xs : List A) (i : ℕ) (x : A) (old new : List B) → i < length xs → x ≡ get_or xs i x
    → old ≡ flat_map f (take i xs) → new ≡ old ++ f x → new ≡ flat_map f (take (i + 1) xs)
flat-more f xs i x old new within is e grown =
    grown ∙ ap (λ ys. ys ++ f x) e ∙ ap (λ ys. flat_map f (take i xs) ++ ys) (sym (append-nil (f x))) ∙ sym (flat_map-append f (take i xs) (x ∷ []))
    ∙ ap (flat_map f) (take-one xs i x within is)

module _ {X : Type 0} (p : X → Bool) where
  pub filter_has : (xs : List X) (a : X) → Contains xs a → p a ≡ true → Contains (filter p xs) a
  filter_has [] a h e = in-nothing a h
  filter_has (x ∷ xs) a h e = cases (λ i. filter_has xs a i e) (p x) refl (first_or_rest x xs a h)
    where
      cases : (Contains xs a → Contains (filter p xs) a) → (q : Bool) → p x ≡ q → (x ≡ a) ⊎ Contains xs a → Contains (cond q (x ∷ filter p xs) (filter p xs)) a
      cases ih true t (inl s) = subst (Contains (x ∷ filter p xs)) s (here x (filter p xs))
      cases ih true t (inr i) = there x (filter p xs) a (ih i)
      cases ih false t (inl s) = absurd (false≢true (sym t ∙ ap p s ∙ e))
      cases ih false t (inr i) = ih i

  pub filter_of : (xs : List X) (a : X) → Contains (filter p xs) a → Contains xs a × (p a ≡ true)
  filter_of [] a h = in-nothing a h
  filter_of (x ∷ xs) a h = cases (λ i. let r = filter_of xs a i in (there x xs a r.0, r.1)) (p x) refl h
    where
      cases : (Contains (filter p xs) a → Contains (x ∷ xs) a × (p a ≡ true)) → (q : Bool) → p x ≡ q → Contains (cond q (x ∷ filter p xs) (filter p xs)) a
          → Contains (x ∷ xs) a × (p a ≡ true)
      cases rest true t i = elim (first_or_rest x (filter p xs) a i) [
        | inl s ↦ (subst (Contains (x ∷ xs)) s (here x xs), ap p (sym s) ∙ t)
        | inr j ↦ rest j
      ]
      cases rest false t i = rest i

  -- one item more is kept, or dropped
  pub filter-kept : (xs : List X) (i : ℕ) (x : X) (old new : List X) → i < length xs → x ≡ get_or xs i x → old ≡ filter p (take i xs) → p x ≡ true
      → new ≡ old ++ x ∷ [] → new ≡ filter p (take (i + 1) xs)
  filter-kept xs i x old new within is e t grown =
      grown ∙ ap (λ ys. ys ++ x ∷ []) e ∙ ap (λ q. filter p (take i xs) ++ cond q (x ∷ []) []) (sym t) ∙ sym (filter-append p (take i xs) (x ∷ []))
      ∙ ap (filter p) (take-one xs i x within is)

  pub filter-dropped : (xs : List X) (i : ℕ) (x : X) (old new : List X) → i < length xs → x ≡ get_or xs i x → old ≡ filter p (take i xs) → p x ≡ false
      → new ≡ old → new ≡ filter p (take (i + 1) xs)
  filter-dropped xs i x old new within is e t same =
      same ∙ e ∙ sym (append-nil (filter p (take i xs))) ∙ ap (λ q. filter p (take i xs) ++ cond q (x ∷ []) []) (sym t)
      ∙ sym (filter-append p (take i xs) (x ∷ [])) ∙ ap (filter p) (take-one xs i x within is)

  -- what no item of a list passes keeps nothing
  pub filter_nothing : (xs : List X) → ((x : X) → Contains xs x → p x ≡ false) → filter p xs ≡ []
  filter_nothing [] h = refl
  filter_nothing (x ∷ xs) h =
      ap (λ q. cond q (x ∷ filter p xs) (filter p xs)) (h x (here x xs)) ∙ filter_nothing xs (λ y i. h y (there x xs y i))
