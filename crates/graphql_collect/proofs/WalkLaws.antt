-- Steps of a walk with visited fragments.
use Rattle.std.proofs.Common.{◌⊎◌, ◌≡◌, refl, sym, subst, ℕ, ◌≤◌, ◌<◌, arith, Bool, true, false, ◌||◌, List, [], ◌∷◌, ◌++◌, ⊎_elim, inl, inr}
use Rattle.std.specs.List.{Contains, list_any}
use Rattle.std.specs.Str.{bytes_eq}
use Rattle.std.proofs.lemmas.Slice.Eq.{bytes_eq-Decides}
use Rattle.graphql_written_out.specs.Trees.{Directives, height}
use Rattle.graphql_names.specs.Names.{Bytes}
use Rattle.graphql_written_out.specs.Fields.{Found, fields}
use Rattle.graphql_written_out.specs.Repeats.{nothing, kept}
use Rattle.graphql_collect.specs.Walks.{Walk, Meanings, is_visited, marked, with_found}
use Rattle.graphql_collect.specs.Walked.{Ready, Complete, Walked}
use Rattle.graphql_semantics.proofs.RepeatLemmas.{adds-old, adds-new, adds-append, adds-none}
use Rattle.graphql_collected.proofs.NamesBehind.{last-cases}

module _ {S : Type 0} (drops : Directives S → Bool) (b : Bytes → Bool) (means : Meanings S) where
  pub walked-none : (s : Walk S) → Walked drops b means [] s s
  walked-none s = record { adds = nothing; grew = λ n v a. inl v }

  pub walked-then : (xs ys : List (Found S)) (s t u : Walk S) → Walked drops b means xs s t → Walked drops b means ys t u → Walked drops b means (xs ++ ys) s u
  walked-then xs ys s t u v w = record {
    adds = adds-append ys u.found v.adds w.adds;
    grew = λ n is a. ⊎_elim (λ before. ⊎_elim (λ first. inl first) (λ c. inr (λ x d. adds-old x w.adds (c x d))) (v.grew n before a)) (λ c. inr c) (w.grew n is a);
  }

  pub ready-after : (xs : List (Found S)) (h low : ℕ) (s t : Walk S) → low ≤ h → Walked drops b means xs s t → Ready drops b means h s → Ready drops b means low t
  ready-after xs h low s t less w r =
      λ n is a. ⊎_elim
      (λ before. ⊎_elim (λ above. inl (omega arith)) (λ c. inr (λ x d. adds-old x w.adds (c x d))) (r n before a))
      (λ c. inr c) (w.grew n is a)

  pub walked-field : (x : Found S) (xs : List (Found S)) (s t : Walk S) → Walked drops b means xs (with_found x s) t → Walked drops b means (x ∷ xs) s t
  walked-field x xs s t w = record { adds = kept x w.adds; grew = w.grew }

  -- a fragment that was entered brings nothing more
  pub walked-visited : (name : Bytes) (xs : List (Found S)) (h : ℕ) (s : Walk S) → Ready drops b means h s → is_visited s name ≡ true
      → b (means name).0 ≡ true → height (means name).1 < h → xs ≡ fields drops b (means name).1 → Walked drops b means xs s s
  walked-visited name xs h s r is a high own = record {
    adds = ⊎_elim (λ above. absurd (omega arith)) (λ c. adds-none s.found xs (λ y d. c y (subst (λ zs. Contains zs y) own d))) (r name is a);
    grew = λ n v q. inl v;
  }

  -- inside a fragment
  pub ready-inside : (name : Bytes) (h low : ℕ) (s : Walk S) → Ready drops b means h s → low ≤ h → low ≤ height (means name).1 → Ready drops b means low (marked name s)
  ready-inside name h low s r less own =
      λ n is a. ⊎_elim
      (λ before. ⊎_elim (λ above. inl (omega arith)) (λ c. inr c) (r n before a))
      (λ e. inl (subst (λ k. low ≤ height (means k).1) (sym e) own)) (last-cases n name s.visited is)

  -- a fragment that is entered is covered
  pub walked-inside : (name : Bytes) (xs : List (Found S)) (s t : Walk S) → xs ≡ fields drops b (means name).1 → Walked drops b means xs (marked name s) t → Walked drops b means xs s t
  walked-inside name xs s t own w = record {
    adds = w.adds;
    grew = λ n is a. ⊎_elim
        (λ marks. ⊎_elim (λ before. inl before)
        (λ e. inr (λ x d. adds-new x w.adds (subst (λ zs. Contains zs x) (sym own) (subst (λ k. Contains (fields drops b (means k).1) x) e d))))
        (last-cases n name s.visited marks))
        (λ c. inr c) (w.grew n is a);
  }

  pub complete-ready : (h : ℕ) (s : Walk S) → Complete drops b means s → Ready drops b means h s
  complete-ready h s c = λ n is a. inr (c n is a)

  pub complete-after : (xs : List (Found S)) (s t : Walk S) → Walked drops b means xs s t → Complete drops b means s → Complete drops b means t
  complete-after xs s t w c = λ n is a. ⊎_elim (λ before. λ x d. adds-old x w.adds (c n before a x d)) (λ d. d) (w.grew n is a)
