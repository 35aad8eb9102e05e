-- The first item of a list that gives something.
use Rattle.std.proofs.Common.{◌≡◌, ◌<◌, ◌+◌, ◌++◌, ◌∷◌, ◌∙◌, arith, ℕ, List, Option, Some, None, take, drop, length, get_or, ap, refl, sym, subst}
use Rattle.std.specs.List.{All, Contains}
use Rattle.std.proofs.lemmas.List.{at_drop_more, take-append-drop}
use Rattle.std.proofs.lemmas.List.Elements.{All-contains, Contains-append_right}
use Rattle.graphql_schema.specs.Promises.{IsFirstWithout}
use Rattle.graphql_schema_files.specs.DeclarationPlaces.{IsFirst}

module _ {A B : Type 0} (At : A → Option B → Type 0) (xs : List A) where
  -- an item gives something, and none before it did
  pub first_found : (i : ℕ) (this : A) (found : B) → i < length xs → this ≡ get_or xs i this → All (λ x. At x None) (take i xs)
      → (At this None → ⊥) → At this (Some found) → IsFirst At xs (Some found)
  first_found i this found inside here before without gives =
      let whole : xs ≡ take i xs ++ get_or xs i this ∷ drop (i + 1) xs = sym (take-append-drop i xs) ∙ at_drop_more (λ ys. take i xs ++ ys) xs i this inside in
      let first : IsFirstWithout (λ x. At x None) xs this = record {
        before = take i xs;
        behind = drop (i + 1) xs;
        stands = whole ∙ ap (λ x. take i xs ++ x ∷ drop (i + 1) xs) (sym here);
        others = λ x there. All-contains (λ x. At x None) (take i xs) x before there;
        without = without;
      } in
      (this, first, gives)

  -- where one gives something, not each gives nothing
  pub first_or_none : (found : B) → IsFirst At xs (Some found) → All (λ x. At x None) xs → ⊥
  first_or_none found first all =
      let stands = first.1 in
      let there : Contains (stands.before ++ first.0 ∷ stands.behind) first.0 = Contains-append_right stands.before (first.0 ∷ stands.behind) first.0 (0, omega arith, refl) in
      stands.without (All-contains (λ x. At x None) xs first.0 all (subst (λ ys. Contains ys first.0) (sym stands.stands) there))
