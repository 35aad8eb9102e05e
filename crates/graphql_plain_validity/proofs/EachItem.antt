-- What holds of each item of lists.
use Rattle.std.proofs.Common.{subst, sym, List, [], ◌∷◌, ◌++◌, arith, inl, inr}
use Rattle.std.specs.List.{AllByRecursion as Each, Contains, flat_map}
use Rattle.std.proofs.lemmas.List.Elements.{All-from_recursion, recursion_from_All, Contains-append_left, Contains-append_right, Contains-append_cases}
use Rattle.graphql_rules_document.proofs.ListItems.{all-from, all-of, nothing-in, only-one}

module _ {X : Type 0} (P : X → Type 0) where
  pub each-append : (xs ys : List X) → Each P xs → Each P ys → Each P (xs ++ ys)
  each-append [] ys h g = g
  each-append (x ∷ xs) ys h g = (h.0, each-append xs ys h.1 g)

  pub each-left : (xs ys : List X) → Each P (xs ++ ys) → Each P xs
  each-left [] ys h = tt
  each-left (x ∷ xs) ys h = (h.0, each-left xs ys h.1)

  pub each-right : (xs ys : List X) → Each P (xs ++ ys) → Each P ys
  each-right [] ys h = h
  each-right (x ∷ xs) ys h = each-right xs ys h.1

  pub each-from : (xs : List X) → ((x : X) → Contains xs x → P x) → Each P xs
  each-from xs h = recursion_from_All P xs (all-from P xs h)

  pub each-of : (xs : List X) → Each P xs → (x : X) → Contains xs x → P x
  each-of xs h = all-of P xs (All-from_recursion P xs h)

  pub each-flat : {A : Type 0} (f : A → List X) (ts : List A)
      → ((a : A) → Contains ts a → Each P (f a)) → Each P (flat_map f ts)
  each-flat f [] h = tt
  each-flat f (a ∷ ts) h =
      each-append (f a) (flat_map f ts) (h a (0, omega arith, λ i. a))
      (each-flat f ts (λ b i. h b (Contains-append_right (a ∷ []) ts b i)))

-- an item of what is made of items is made of one of them
module _ {A X : Type 0} (f : A → List X) where
  pub flat-from : (ts : List A) (x : X) → Contains (flat_map f ts) x
      → (a : A) × Contains ts a × Contains (f a) x
  flat-from [] x i = nothing-in x i
  flat-from (a ∷ ts) x i = elim (Contains-append_cases (f a) (flat_map f ts) x i) [
    | inl j ↦ (a, (0, omega arith, λ i. a), j)
    | inr j ↦ (let r = flat-from ts x j in (r.0, Contains-append_right (a ∷ []) ts r.0 r.1, r.2))
  ]

  pub flat-in : (ts : List A) (a : A) (x : X) → Contains ts a → Contains (f a) x
      → Contains (flat_map f ts) x
  flat-in [] a x i j = nothing-in a i
  flat-in (b ∷ ts) a x i j = elim (Contains-append_cases (b ∷ []) ts a i) [
    | inl k ↦ Contains-append_left (f b) (flat_map f ts) x
        (subst (λ c. Contains (f c) x) (sym (only-one b a k)) j)
    | inr k ↦ Contains-append_right (f b) (flat_map f ts) x (flat-in ts a x k j)
  ]
