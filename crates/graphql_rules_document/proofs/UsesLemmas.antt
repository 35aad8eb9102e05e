-- The uses of variables in the fragments that are marked.
use Rattle.std.proofs.Common.{◌≡◌, ℕ, ◌+◌, ◌<◌, Bool, true, false, List, [], ◌∷◌, ◌++◌, map, length, get_or, take, if◌then◌else◌, refl, sym, ap, ◌∙◌, append-nil, append_assoc, arith}
use Rattle.std.specs.List.{filter, flat_map}
use Rattle.std.proofs.lemmas.Grind.{flat_map-append}
use Rattle.std.proofs.lemmas.List.{get_or-map, length-map, map-append, take_more}
use Rattle.graphql_occurrences.specs.Parts.{Use}
use Rattle.graphql_rules_document.specs.Lent.{fragment_of, use_of}
use Rattle.graphql_rules_document.specs.Scopes as spec
use Rattle.graphql_rules_document.specs.declared.scopes.FragmentScope.{FragmentScope}

filter-append : {A : Type 0} (test : A → Bool) (xs ys : List A) → filter test (xs ++ ys) ≡ filter test xs ++ filter test ys
filter-append test [] ys = refl
filter-append test (x ∷ xs) ys = either (test x) (filter-append test xs ys)
  where
    either : (b : Bool) → filter test (xs ++ ys) ≡ filter test xs ++ filter test ys → (if b then x ∷ filter test (xs ++ ys) else filter test (xs ++ ys)) ≡ (if b then x ∷ filter test xs else filter test xs) ++ filter test ys
    either true h = ap (λ zs. x ∷ zs) h
    either false h = h

module _ (test : spec.FragmentScope → Bool) (fragments : List FragmentScope) (i : ℕ) (d : FragmentScope) (within : i < length fragments) (marks : List Bool) (are : marks ≡ map test (map fragment_of fragments)) where
  abbrev kept : List FragmentScope → List Use
  kept fs = flat_map (λ f. f.uses) (filter test (map fragment_of fs))

  pub mark_is : get_or marks i false ≡ test (fragment_of (get_or fragments i d))
  mark_is =
      ap (λ ms. get_or ms i false) are
      ∙ get_or-map test (map fragment_of fragments) i (fragment_of d) false (omega (arith, within, length-map fragments fragment_of))
      ∙ ap test (get_or-map fragment_of fragments i d (fragment_of d) within)

  one : (b : Bool) (f : spec.FragmentScope) → flat_map (λ (g : spec.FragmentScope). g.uses) (if b then f ∷ [] else []) ≡ (if b then f.uses else [])
  one true f = append-nil f.uses
  one false f = refl

  -- with one fragment more
  pub kept_more : kept (take (i + 1) fragments) ≡ kept (take i fragments) ++ (if get_or marks i false then map use_of (get_or fragments i d).uses else [])
  kept_more =
      ap (λ fs. flat_map (λ f. f.uses) (filter test fs)) (ap (map fragment_of) (take_more fragments i d within) ∙ map-append fragment_of (take i fragments) (get_or fragments i d ∷ []))
      ∙ ap (flat_map (λ f. f.uses)) (filter-append test (map fragment_of (take i fragments)) (fragment_of (get_or fragments i d) ∷ []))
      ∙ flat_map-append (λ f. f.uses) (filter test (map fragment_of (take i fragments))) (filter test (fragment_of (get_or fragments i d) ∷ []))
      ∙ ap (λ us. kept (take i fragments) ++ us) (one (test (fragment_of (get_or fragments i d))) (fragment_of (get_or fragments i d)) ∙ ap (λ b. if b then map use_of (get_or fragments i d).uses else []) (sym mark_is))

  pub uses_more : d ≡ get_or fragments i d → (marked : Bool) → marked ≡ get_or marks i false → (old mid new : List Use) → mid ≡ old ++ kept (take i fragments) → new ≡ mid ++ (if marked then map use_of d.uses else [])
      → new ≡ old ++ kept (take (i + 1) fragments)
  uses_more is marked was old mid new before now =
      now
      ∙ (λ j. before j ++ (if was j then map use_of (is j).uses else []))
      ∙ append_assoc old (kept (take i fragments)) (if get_or marks i false then map use_of (get_or fragments i d).uses else [])
      ∙ ap (λ us. old ++ us) (sym kept_more)
