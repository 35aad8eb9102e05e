-- Elements of lists, lists whose elements belong together one by one, and places.
use Rattle.std.proofs.Common.{◌≡◌, refl, ap, sym, subst, ◌⊎◌, inl, inr, ℕ, zero, suc, ◌<◌, arith, List, [], ◌∷◌, ◌++◌, map, Some, length, take, slice_get}
use Rattle.std.specs.List.{AllZip, flat_map}
use Rattle.graphql_merging.proofs.DirectFields.{In}

module _ {X : Type 0} where
  pub in-left : (x : X) (xs ys : List X) → In x xs → In x (xs ++ ys)
  in-left x [] ys i = absurd i
  in-left x (z ∷ xs) ys (inl e) = inl e
  in-left x (z ∷ xs) ys (inr i) = inr (in-left x xs ys i)

  pub in-right : (x : X) (xs ys : List X) → In x ys → In x (xs ++ ys)
  in-right x [] ys i = i
  in-right x (z ∷ xs) ys i = inr (in-right x xs ys i)

  pub in-either : (x : X) (xs ys : List X) → In x (xs ++ ys) → In x xs ⊎ In x ys
  in-either x [] ys i = inr i
  in-either x (z ∷ xs) ys (inl e) = inl (inl e)
  in-either x (z ∷ xs) ys (inr i) = elim (in-either x xs ys i) [ inl j ↦ inl (inr j) | inr j ↦ inr j ]

module _ {X Y : Type 0} where
  module _ (f : X → List Y) where
    pub in-flat_map : (y : Y) (xs : List X) → In y (flat_map f xs) → (x : X) × In x xs × In y (f x)
    in-flat_map y [] i = absurd i
    in-flat_map y (x ∷ xs) i = elim (in-either y (f x) (flat_map f xs) i) [
      | inl j ↦ (x, inl refl, j)
      | inr j ↦ (let r = in-flat_map y xs j in (r.0, inr r.1, r.2))
    ]

    pub in-flat_map-from : (y : Y) (x : X) (xs : List X) → In x xs → In y (f x) → In y (flat_map f xs)
    in-flat_map-from y x [] i j = absurd i
    in-flat_map-from y x (z ∷ xs) (inl e) j = in-left y (f z) (flat_map f xs) (let P : X → Type 0 = λ w. In y (f w) in subst P e j)
    in-flat_map-from y x (z ∷ xs) (inr i) j = in-right y (f z) (flat_map f xs) (in-flat_map-from y x xs i j)

  module _ (f : X → Y) where
    pub in-map : (y : Y) (xs : List X) → In y (map f xs) → (x : X) × In x xs × (y ≡ f x)
    in-map y [] i = absurd i
    in-map y (x ∷ xs) (inl e) = (x, inl refl, e)
    in-map y (x ∷ xs) (inr i) = (let r = in-map y xs i in (r.0, inr r.1, r.2))

    pub in-map-from : (x : X) (xs : List X) → In x xs → In (f x) (map f xs)
    in-map-from x [] i = absurd i
    in-map-from x (z ∷ xs) (inl e) = inl (ap f e)
    in-map-from x (z ∷ xs) (inr i) = inr (in-map-from x xs i)

  module _ (R : X → Y → Type 0) where
    pub zip-left : (xs : List X) (ys : List Y) → AllZip R xs ys → (x : X) → In x xs → (y : Y) × In y ys × R x y
    zip-left [] [] h x i = absurd i
    zip-left [] (y ∷ ys) h x i = absurd h
    zip-left (z ∷ xs) [] h x i = absurd h
    zip-left (z ∷ xs) (y ∷ ys) h x (inl e) = (y, inl refl, let P : X → Type 0 = λ w. R w y in subst P (sym e) h.0)
    zip-left (z ∷ xs) (y ∷ ys) h x (inr i) = (let r = zip-left xs ys h.1 x i in (r.0, inr r.1, r.2))

    pub zip-right : (xs : List X) (ys : List Y) → AllZip R xs ys → (y : Y) → In y ys → (x : X) × In x xs × R x y
    zip-right [] [] h y i = absurd i
    zip-right [] (z ∷ ys) h y i = absurd h
    zip-right (x ∷ xs) [] h y i = absurd h
    zip-right (x ∷ xs) (z ∷ ys) h y (inl e) = (x, inl refl, let P : Y → Type 0 = λ w. R x w in subst P (sym e) h.0)
    zip-right (x ∷ xs) (z ∷ ys) h y (inr i) = (let r = zip-right xs ys h.1 y i in (r.0, inr r.1, r.2))

    pub zip-append : (xs : List X) (ys : List Y) (us : List X) (vs : List Y) → AllZip R xs ys → AllZip R us vs → AllZip R (xs ++ us) (ys ++ vs)
    zip-append [] [] us vs h k = k
    zip-append [] (y ∷ ys) us vs h k = absurd h
    zip-append (x ∷ xs) [] us vs h k = absurd h
    zip-append (x ∷ xs) (y ∷ ys) us vs h k = (h.0, zip-append xs ys us vs h.1 k)

  pub zip-weaker : (R Q : X → Y → Type 0) → ((x : X) (y : Y) → R x y → Q x y) → (xs : List X) (ys : List Y) → AllZip R xs ys → AllZip Q xs ys
  zip-weaker R Q weaker [] [] h = tt
  zip-weaker R Q weaker [] (y ∷ ys) h = absurd h
  zip-weaker R Q weaker (x ∷ xs) [] h = absurd h
  zip-weaker R Q weaker (x ∷ xs) (y ∷ ys) h = (weaker x y h.0, zip-weaker R Q weaker xs ys h.1)

-- ---- places

module _ {X : Type 0} where
  pub slice_get-take : (n : ℕ) (xs : List X) (k : ℕ) → k < n → slice_get (take n xs) k ≡ slice_get xs k
  slice_get-take zero xs k h = absurd (omega (arith, h))
  slice_get-take (suc n) [] k h = refl
  slice_get-take (suc n) (x ∷ xs) zero h = refl
  slice_get-take (suc n) (x ∷ xs) (suc k) h = slice_get-take n xs k (omega (arith, h))

  pub slice_get-left : (xs ys : List X) (k : ℕ) (x : X) → slice_get xs k ≡ Some x → slice_get (xs ++ ys) k ≡ Some x
  slice_get-left [] ys k x e = cc
  slice_get-left (z ∷ xs) ys zero x e = e
  slice_get-left (z ∷ xs) ys (suc k) x e = slice_get-left xs ys k x e

  pub slice_get-last : (xs : List X) (x : X) → slice_get (xs ++ x ∷ []) (length xs) ≡ Some x
  slice_get-last [] x = refl
  slice_get-last (z ∷ xs) x = slice_get-last xs x
