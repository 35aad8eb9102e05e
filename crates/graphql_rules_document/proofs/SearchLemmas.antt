-- A search for the fragments that spreads reach.
use Rattle.std.proofs.Common.{◌≡◌, ◌⊎◌, inl, inr, ℕ, ◌<◌, Bool, true, false, List, [], ◌∷◌, ◌++◌, Some, map, length, get_or, refl, sym, ap, subst, ◌∙◌, arith}
use Rattle.std.specs.List.{AllByRecursion as Each, Contains}
use Rattle.std.specs.Option.{option_map_or}
use Rattle.std.proofs.lemmas.Bool.{cases_Bool, both_ways, or_left, or_right, or_cases}
use Rattle.std.proofs.lemmas.List.{get_or-map, length-map, get_or_default}
use Rattle.std.proofs.lemmas.List.Elements.{Contains-get_or, Contains-append_left, Contains-push, Contains-push_cases, All-map, recursion_from_All}
use Rattle.std.proofs.lemmas.List.Folds.{list_any-append}
use Rattle.std.proofs.lemmas.Option.{slice_get-get_or, slice_get_cases}
use Rattle.std.proofs.lemmas.Simd.{map-map}
use Rattle.std.specs.Str.{bytes_eq}
use Rattle.graphql_names.specs.Names.{Bytes, is_one_of}
use Rattle.graphql_rules_document.specs.declared.scopes.FragmentScope.{FragmentScope}
use Rattle.graphql_rules_document.specs.declared.scopes.Spread.{Spread}
use Rattle.graphql_rules_document.specs.Lent.{fragment_of, spread_of}
use Rattle.graphql_rules_document.specs.Named.{fragment_names}
use Rattle.graphql_rules_document.specs.Reached.{IsReached, names_of, reached, reached_marks}
use Rattle.graphql_rules_document.specs.Scopes as spec
use Rattle.graphql_rules_document.specs.Searches.{Marked, Marks, marks_of, name_at, spread_names, spread_names_at}
use Rattle.graphql_rules_document.proofs.LeastLemmas.{In, IsClosed, each_at, each_weaker, each_append, in_self, each_in, reached_is, reached_within, reached_closed, start_reached}

-- a search has found these names: fragments of them are marked, and what they spread is found, or they wait
pub record Searching (fragments : List FragmentScope) (from : List spec.Spread) (marks : List Bool) (waiting : List ℕ) : Type 0 where
  pub found : List Bytes
  pub marked : marks ≡ marks_of (fragment_names fragments) found
  pub sound : Each (IsReached (map fragment_of fragments) from) found
  pub start : Each (In found) (names_of from)
  pub waits : (place : ℕ) (f : FragmentScope) → place < length fragments → f ≡ get_or fragments place f → Contains waiting place → In found f.name.now
  pub followed : (place : ℕ) (f : FragmentScope) → place < length fragments → f ≡ get_or fragments place f → In found f.name.now → Contains waiting place ⊎ Each (In found) (spread_names f.spreads)

names_are : (spreads : List Spread) → names_of (map spread_of spreads) ≡ spread_names spreads
names_are spreads = map-map (λ s. s.name) spread_of spreads

in_first : (found more : List Bytes) (n : Bytes) → In found n → In (found ++ more) n
in_first found more n h = list_any-append (bytes_eq n) found more ∙ or_left (is_one_of found n) (is_one_of more n) h

in_second : (found more : List Bytes) (n : Bytes) → In more n → In (found ++ more) n
in_second found more n h = list_any-append (bytes_eq n) found more ∙ or_right (is_one_of found n) (is_one_of more n) h

module _ (fragments : List FragmentScope) (from : List spec.Spread) where
  abbrev fs : List spec.FragmentScope
  fs = map fragment_of fragments

  abbrev names : List Bytes
  names = fragment_names fragments

  name_is : (place : ℕ) (f : FragmentScope) → place < length fragments → f ≡ get_or fragments place f → name_at names place ≡ f.name.now
  name_is place f within is = get_or-map (λ g. g.name.now) fragments place f [] within ∙ ap (λ g. g.name.now) (sym is)

  is_there : (place : ℕ) (f : FragmentScope) → place < length fragments → f ≡ get_or fragments place f → Contains fs (fragment_of f)
  is_there place f within is = subst (Contains fs) (get_or-map fragment_of fragments place f (fragment_of f) within ∙ ap fragment_of (sym is)) (Contains-get_or fs place (fragment_of f) (omega (arith, length-map fragments fragment_of, within)))

  -- ---- the start

  pub search_starts : (spreads : List Spread) → from ≡ map spread_of spreads → (old : List Bool) → old ≡ map (λ _. false) fragments → (marks : List Bool) (waiting : List ℕ) → Marks names (spread_names spreads) old [] marks waiting
      → Searching fragments from marks waiting
  search_starts spreads is old none marks waiting h =
      let more = spread_names spreads in
      let m = h [] (none ∙ sym (map-map (is_one_of []) (λ f. f.name.now) fragments)) in
      let same : names_of from ≡ more = ap names_of is ∙ names_are spreads in
      record {
        found = more;
        marked = m.marks;
        sound = subst (Each (IsReached fs from)) same (start_reached fs from);
        start = subst (Each (In more)) (sym same) (in_self more);
        waits = λ place f within is there. waits m place f within is (m.only place there);
        followed = λ place f within is here. inl (m.waits place (omega (arith, within, length-map fragments (λ g. g.name.now))) (ap (is_one_of more) (name_is place f within is) ∙ here) refl);
      }
    where
      none-there : (place : ℕ) → Contains [] place → ⊥
      none-there place c = omega (arith, c.1)

      waits : Marked names [] (spread_names spreads) old [] marks waiting → (place : ℕ) (f : FragmentScope) → place < length fragments → f ≡ get_or fragments place f → Contains [] place ⊎ (is_one_of (spread_names spreads) (name_at names place) ≡ true)
          → In (spread_names spreads) f.name.now
      waits m place f within is (inl c) = absurd (none-there place c)
      waits m place f within is (inr e) = ap (is_one_of (spread_names spreads)) (sym (name_is place f within is)) ∙ e

  -- ---- one fragment is followed

  spreads_there : (place : ℕ) (f : FragmentScope) → place < length fragments → f ≡ get_or fragments place f → spread_names_at fragments place ≡ spread_names f.spreads
  spreads_there place f within is = ap (λ o. option_map_or (λ g. spread_names g.spreads) o []) (slice_get-get_or fragments place f within ∙ ap Some (sym is))

  spread_reached : (place : ℕ) (f : FragmentScope) → place < length fragments → f ≡ get_or fragments place f → IsReached fs from f.name.now → Each (IsReached fs from) (spread_names f.spreads)
  spread_reached place f within is r =
      subst (Each (IsReached fs from)) (names_are f.spreads) (each_at (λ g. IsReached fs from g.name → Each (IsReached fs from) (names_of g.spreads)) fs (fragment_of f) (reached_closed fs from) (is_there place f within is) r)

  pub search_follows : (marks : List Bool) (waiting rest : List ℕ) (place : ℕ) → waiting ≡ rest ++ place ∷ [] → Searching fragments from marks waiting → (now : List Bool) (after : List ℕ) → Marks names (spread_names_at fragments place) marks rest now after
      → Searching fragments from now after
  search_follows marks waiting rest place popped s now after h =
      let m = h s.found s.marked in
      record {
        found = s.found ++ more;
        marked = m.marks;
        sound = each_append (IsReached fs from) s.found more s.sound sound;
        start = each_weaker (In s.found) (In (s.found ++ more)) (λ n i. in_first s.found more n i) (names_of from) s.start;
        waits = λ j f within is there. waits j f within is (m.only j there);
        followed = followed m;
      }
    where
      more : List Bytes
      more = spread_names_at fragments place

      there_before : (j : ℕ) → Contains rest j → Contains waiting j
      there_before j c = subst (λ w. Contains w j) (sym popped) (Contains-append_left rest (place ∷ []) j c)

      popped_there : Contains waiting place
      popped_there = subst (λ w. Contains w place) (sym popped) (Contains-push rest place)

      sound : Each (IsReached fs from) (spread_names_at fragments place)
      sound = elim ((slice_get_cases fragments place).1) [
        | inl (f, within, there, is) ↦ subst (Each (IsReached fs from)) (sym (spreads_there place f within (sym is)))
            (spread_reached place f within (sym is) (each_in (IsReached fs from) s.found f.name.now s.sound (s.waits place f within (sym is) popped_there)))
        | inr (past, none) ↦ subst (Each (IsReached fs from)) (sym (ap (λ o. option_map_or (λ g. spread_names g.spreads) o []) none)) tt
      ]

      waits : (j : ℕ) (f : FragmentScope) → j < length fragments → f ≡ get_or fragments j f → Contains rest j ⊎ (is_one_of (spread_names_at fragments place) (name_at names j) ≡ true) → In (s.found ++ spread_names_at fragments place) f.name.now
      waits j f within is (inl c) = in_first s.found (spread_names_at fragments place) f.name.now (s.waits j f within is (there_before j c))
      waits j f within is (inr e) = in_second s.found (spread_names_at fragments place) f.name.now (ap (is_one_of (spread_names_at fragments place)) (sym (name_is j f within is)) ∙ e)

      followed : Marked names s.found (spread_names_at fragments place) marks rest now after → (j : ℕ) (f : FragmentScope) → j < length fragments → f ≡ get_or fragments j f → In (s.found ++ spread_names_at fragments place) f.name.now
          → Contains after j ⊎ Each (In (s.found ++ spread_names_at fragments place)) (spread_names f.spreads)
      followed m j f within is here = elim (cases_Bool (is_one_of s.found f.name.now)) [
        | inl old ↦ elim (s.followed j f within is old) [
          | inl c ↦ elim (Contains-push_cases rest place j (subst (λ w. Contains w j) popped c)) [
            | inl r ↦ inl (m.stays j r)
            | inr e ↦ inr (each_weaker (In more) (In (s.found ++ more)) (λ n i. in_second s.found more n i) (spread_names f.spreads)
                (subst (Each (In more)) (ap (spread_names_at fragments) e ∙ spreads_there j f within is) (in_self more)))
          ]
          | inr each ↦ inr (each_weaker (In s.found) (In (s.found ++ more)) (λ n i. in_first s.found more n i) (spread_names f.spreads) each)
        ]
        | inr absent ↦ elim (or_cases (is_one_of s.found f.name.now) (is_one_of more f.name.now) (sym (list_any-append (bytes_eq f.name.now) s.found more) ∙ here)) [
          | inl old ↦ absurd (both_ways (is_one_of s.found f.name.now) absent old)
          | inr new ↦ inl (m.waits j (omega (arith, within, length-map fragments (λ g. g.name.now))) (ap (is_one_of more) (name_is j f within is) ∙ new) (ap (is_one_of s.found) (name_is j f within is) ∙ absent))
        ]
      ]

  -- ---- the end

  bool_iff : (a b : Bool) → (a ≡ true → b ≡ true) → (b ≡ true → a ≡ true) → a ≡ b
  bool_iff true b h k = sym (h refl)
  bool_iff false true h k = k refl
  bool_iff false false h k = refl

  none_waits : (place : ℕ) → Contains [] place → ⊥
  none_waits place c = omega (arith, c.1)

  pub search_ends : (marks : List Bool) → Searching fragments from marks [] → marks ≡ reached_marks fs from
  search_ends marks s =
      s.marked
      ∙ map-map (is_one_of s.found) (λ f. f.name.now) fragments
      ∙ ap (λ (g : Bytes → Bool). map (λ (f : FragmentScope). g f.name.now) fragments) (λ i n. same n i)
      ∙ sym (map-map (λ f. is_one_of (reached fs from) f.name) fragment_of fragments)
    where
      all_followed : (f : FragmentScope) (place : ℕ) → place < length fragments → f ≡ get_or fragments place f → In s.found f.name.now → Each (In s.found) (names_of (map spread_of f.spreads))
      all_followed f place within is here = elim (s.followed place f within is here) [
        | inl c ↦ absurd (none_waits place c)
        | inr each ↦ subst (Each (In s.found)) (sym (names_are f.spreads)) each
      ]

      closed : IsClosed fs (In s.found)
      closed = recursion_from_All (λ f. In s.found f.name → Each (In s.found) (names_of f.spreads)) fs
          (All-map (λ f. In s.found f.name → Each (In s.found) (names_of f.spreads)) fragment_of fragments
          (λ k d within. all_followed (get_or fragments k d) k within (get_or_default fragments k d (get_or fragments k d) within)))

      same : (n : Bytes) → is_one_of s.found n ≡ is_one_of (reached fs from) n
      same n = bool_iff (is_one_of s.found n) (is_one_of (reached fs from) n)
          (λ h. (reached_is fs from n).1 (each_in (IsReached fs from) s.found n s.sound h))
          (λ h. reached_within (In s.found) fs from s.start closed n ((reached_is fs from n).0 h))
