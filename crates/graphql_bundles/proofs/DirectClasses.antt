-- The fields that stand directly in a set, compared with one of each class.
use Rattle.std.proofs.Common.{◌≡◌, ap, Bool, List, [], ◌∷◌, ◌++◌, map, ◌⊎◌, inl, inr}
use Rattle.graphql_merging.specs.Members.{Member}
use Rattle.graphql_merging.specs.Told.{later_pairs}
use Rattle.graphql_bundles.specs.BundleLaws.{ToldIsDirect}
use Rattle.graphql_merging.proofs.DirectFields.{In}

module _ {X : Type 0} where
  pub left-In : (x : X) (xs ys : List X) → In x xs → In x (xs ++ ys)
  left-In x [] ys i = absurd i
  left-In x (z ∷ xs) ys (inl e) = inl e
  left-In x (z ∷ xs) ys (inr i) = inr (left-In x xs ys i)

  pub right-In : (x : X) (xs ys : List X) → In x ys → In x (xs ++ ys)
  right-In x [] ys i = i
  right-In x (z ∷ xs) ys i = inr (right-In x xs ys i)

  pub either-In : (x : X) (xs ys : List X) → In x (xs ++ ys) → In x xs ⊎ In x ys
  either-In x [] ys i = inr i
  either-In x (z ∷ xs) ys (inl e) = inl (inl e)
  either-In x (z ∷ xs) ys (inr i) = elim (either-In x xs ys i) [ inl j ↦ inl (inr j) | inr j ↦ inr j ]

module _ {S C : Type 0} where
  abbrev pub With : Member S C → List (Member S C) → List (Member S C × Member S C)
  With x ys = map {B = Member S C × Member S C} (λ y. (x, y)) ys

  pub of-with : (x : Member S C) (ys : List (Member S C)) (a b : Member S C) → In (a, b) (With x ys) → (a ≡ x) × In b ys
  of-with x [] a b h = absurd h
  of-with x (y ∷ ys) a b (inl e) = (ap (λ (p : Member S C × Member S C). p.0) e, inl (ap (λ (p : Member S C × Member S C). p.1) e))
  of-with x (y ∷ ys) a b (inr h) = let r = of-with x ys a b h in (r.0, inr r.1)

  pub to-with : (x : Member S C) (ys : List (Member S C)) (a b : Member S C) → a ≡ x → In b ys → In (a, b) (With x ys)
  to-with x [] a b e i = absurd i
  to-with x (y ∷ ys) a b e (inl f) = inl (λ i. (e i, f i))
  to-with x (y ∷ ys) a b e (inr i) = inr (to-with x ys a b e i)

  -- the pairs of a list with one item more
  pub later-push : (ms : List (Member S C)) (f a b : Member S C) → In (a, b) (later_pairs (ms ++ f ∷ [])) → In (a, b) (later_pairs ms) ⊎ (In a ms × (b ≡ f))
  later-push [] f a b i = absurd i
  later-push (x ∷ ms) f a b i = elim (either-In (a, b) (With x (ms ++ f ∷ [])) (later_pairs (ms ++ f ∷ [])) i) [
    | inl j ↦ (let r = of-with x (ms ++ f ∷ []) a b j in
        elim (either-In b ms (f ∷ []) r.1) [
          | inl k ↦ inl (left-In (a, b) (With x ms) (later_pairs ms) (to-with x ms a b r.0 k))
          | inr k ↦ inr (inl r.0, last b f k)
        ])
    | inr j ↦ elim (later-push ms f a b j) [
      | inl k ↦ inl (right-In (a, b) (With x ms) (later_pairs ms) k)
      | inr k ↦ inr (inr k.0, k.1)
    ]
  ]
    where
      last : (b f : Member S C) → In b (f ∷ []) → b ≡ f
      last b f (inl e) = e
      last b f (inr i) = absurd i

pub told-is-direct : (S C : Type 0) (eq : S → S → Bool) → ToldIsDirect S C eq
told-is-direct S C eq types sets errors told set a b i pair key differ = elim (told set i a b pair key) [
  | inl same ↦ absurd (differ same)
  | inr named ↦ named
]
