-- Which parts a group has.
use Rattle.std.proofs.Common.{◌≡◌, refl, ap, sym, subst, ◌∙◌, arith, ◌<◌, length, true, false, List, [], ◌∷◌, map, ◌⊎◌, inl, inr}
use Rattle.std.specs.List.{Contains}
use Rattle.std.proofs.lemmas.Bool.{false≢true}
use Rattle.graphql_names.specs.Names.{Bytes}
use Rattle.graphql_bundles.specs.Bundles.{GroupPart, every, of_object, parts}
use Rattle.graphql_merging.proofs.DirectFields.{In, to-In, from-In}
use Rattle.graphql_merging.proofs.Nested.{in-nothing}
use Rattle.graphql_bundles.proofs.PartLemmas.{only-In, map-In}

In-names : (part : GroupPart) (names : List Bytes) → In part (map of_object names) → (k : Bytes) × In k names × (part ≡ of_object k)
In-names part [] i = absurd i
In-names part (m ∷ names) (inl q) = (m, inl refl, q)
In-names part (m ∷ names) (inr i) = let r = In-names part names i in (r.0, inr r.1, r.2)

-- a part without the flag, where there is an object type, is that of one
pub part-cases : (names : List Bytes) (part : GroupPart) (n : Bytes) → Contains names n → Contains (parts false names) part → part.around ≡ false
    → (k : Bytes) × Contains names k × (part ≡ of_object k)
part-cases [] part n there i e = in-nothing n there
part-cases (k ∷ []) part n there i e = elim (to-In part (of_object k ∷ []) i) [ inl q ↦ (k, from-In k (k ∷ []) (inl refl), q) | inr j ↦ absurd j ]
part-cases (k ∷ l ∷ names) part n there i e = elim (to-In part (every true ∷ map of_object (k ∷ l ∷ names)) i) [
  | inl q ↦ absurd (false≢true (sym e ∙ ap (λ (p : GroupPart). p.around) q))
  | inr j ↦ (let r = In-names part (k ∷ l ∷ names) j in (r.0, from-In r.0 (k ∷ l ∷ names) r.1, r.2))
]

-- no object type: one part, of all
pub parts-none : (names : List Bytes) → names ≡ [] → parts false names ≡ every false ∷ []
parts-none [] e = refl
parts-none (n ∷ names) e = cc

-- at each object type: a part of it
pub part-of-one : (names : List Bytes) (n : Bytes) → Contains names n → Contains (parts false names) (of_object n)
part-of-one [] n i = in-nothing n i
part-of-one (k ∷ []) n i =
    subst (λ m. Contains (of_object k ∷ []) (of_object m)) (sym (only-In n k (to-In n (k ∷ []) i))) (from-In (of_object k) (of_object k ∷ []) (inl refl))
part-of-one (k ∷ l ∷ names) n i = from-In (of_object n) (every true ∷ map of_object (k ∷ l ∷ names)) (inr (map-In n (k ∷ l ∷ names) (to-In n (k ∷ l ∷ names) i)))

-- of two or more: a part of all, with the flag
pub part-of-all : (names : List Bytes) → 1 < length names → Contains (parts false names) (every true)
part-of-all [] h = absurd (omega (arith, h))
part-of-all (k ∷ []) h = absurd (omega (arith, h))
part-of-all (k ∷ l ∷ names) h = from-In (every true) (every true ∷ map of_object (k ∷ l ∷ names)) (inl refl)

-- each part is one of these
pub parts-are : (names : List Bytes) (part : GroupPart) → Contains (parts false names) part
    → (names ≡ []) ⊎ (((part ≡ every true) × (1 < length names)) ⊎ ((k : Bytes) × Contains names k × (part ≡ of_object k)))
parts-are [] part i = inl refl
parts-are (k ∷ []) part i = elim (to-In part (of_object k ∷ []) i) [ inl q ↦ inr (inr (k, from-In k (k ∷ []) (inl refl), q)) | inr j ↦ absurd j ]
parts-are (k ∷ l ∷ names) part i = elim (to-In part (every true ∷ map of_object (k ∷ l ∷ names)) i) [
  | inl q ↦ inr (inl (q, omega arith))
  | inr j ↦ (let r = In-names part (k ∷ l ∷ names) j in inr (inr (r.0, from-In r.0 (k ∷ l ∷ names) r.1, r.2)))
]
