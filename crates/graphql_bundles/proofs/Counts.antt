-- How many fields there are in sets that are all different, and in the parts of a group.
use Rattle.std.proofs.Common.{◌≡◌, refl, ap, sym, ◌∙◌, ℕ, ◌+◌, ◌-◌, ◌*◌, ◌<◌, ◌≤◌, arith, nat_eq, Bool, true, false, not, ◌||◌, cond, fold, List, [], ◌∷◌, ◌++◌, filter, length, get_or, take, Some, None, inl, inr}
use Rattle.std.specs.List.{Contains, IsDistinct, list_any, sum_by}
use Rattle.std.specs.Option.{option_map_or}
use Rattle.std.specs.Str.{bytes_eq}
use Rattle.std.specs.Cmp.Lexicographic.{nat_list_eq_equiv}
use Rattle.std.proofs.lemmas.Bool.{cases_lt, false≢true}
use Rattle.std.proofs.lemmas.List.{get_or_past}
use Rattle.std.proofs.lemmas.List.Sums.{sum_by-cons, sum_by_more}
use Rattle.std.proofs.lemmas.Map.Keys.{IsDistinct-push}
use Rattle.std.proofs.lemmas.Nat.{mul-le}
use Rattle.std.proofs.lemmas.Option.{slice_get-get_or, slice_get_past}
use Rattle.graphql_names.specs.Names.{Bytes}
use Rattle.graphql_schema.specs.Lookups.{own_name, is_object}
use Rattle.graphql_merging.specs.FieldNodes.{fields_written}
use Rattle.graphql_merging.specs.declared.table.SetTable.{SetTable}
use Rattle.graphql_merging.specs.declared.table.WrittenField.{WrittenField}
use Rattle.graphql_merging.specs.declared.table.WrittenSet.{WrittenSet}
use Rattle.graphql_bundles.specs.Counted.{fields_of_parts, fields_of_sets, repeats_in_parts}
use Rattle.graphql_bundles.specs.Groups.{IsFoundAt, fields_in, is_of, names_in, with_name}
use Rattle.graphql_bundles.proofs.ListLemmas.{here, there}
use Rattle.graphql_bundles.proofs.Sums.{at-places, in-classes}

-- one less of each is one less in all, or nothing
but-first : {X : Type 0} (f : X → ℕ) (xs : List X) → sum_by (λ x. f x - 1) xs ≤ sum_by f xs - 1
but-first f [] = omega arith
but-first f (x ∷ xs) =
    let rest = but-first f xs in
    let all = sum_by-cons f x xs in
    let less = sum_by-cons (λ y. f y - 1) x xs in
    omega (arith, rest, all, less)

module _ {S C : Type 0} where
  -- the names of object types are all different
  distinct-more : (names : List Bytes) (f : WrittenField S C) → IsDistinct bytes_eq names → IsDistinct bytes_eq (with_name names f)
  distinct-more names f apart = cases (is_object f.selected.parent.now) (list_any (bytes_eq (own_name f.selected.parent.now)) names) refl
    where
      cases : (o q : Bool) → list_any (bytes_eq (own_name f.selected.parent.now)) names ≡ q
          → IsDistinct bytes_eq (cond o (cond q names (names ++ own_name f.selected.parent.now ∷ [])) names)
      cases true true e = apart
      cases true false e = IsDistinct-push nat_list_eq_equiv names (own_name f.selected.parent.now) apart e
      cases false q e = apart

  distinct-all : (names : List Bytes) (fs : List (WrittenField S C)) → IsDistinct bytes_eq names → IsDistinct bytes_eq (fold with_name names fs)
  distinct-all names [] apart = apart
  distinct-all names (f ∷ fs) apart = distinct-all (with_name names f) fs (distinct-more names f apart)

  kept-alike : (p q : WrittenField S C → Bool) (fs : List (WrittenField S C)) → ((f : WrittenField S C) → Contains fs f → p f ≡ q f) → filter p fs ≡ filter q fs
  kept-alike p q [] same = refl
  kept-alike p q (f ∷ fs) same =
      let rest = kept-alike p q fs (λ g i. same g (there f fs g i)) in
      (λ i. cond (same f (here f fs) i) (f ∷ rest i) (rest i))

  -- where all parents are object types, each field is in one of the parts
  pub parts-within : (group : List (WrittenField S C)) (names : List Bytes) → names ≡ names_in group
      → IsFoundAt (λ f. not (is_object f.selected.parent.now)) group None → fields_of_parts group names ≤ length group
  unfolding IsDistinct
  parts-within group names are none =
      let key = λ (f : WrittenField S C). own_name f.selected.parent.now in
      let apart = distinct-all [] group tt in
      let few = in-classes bytes_eq nat_list_eq_equiv key group (names_in group) apart in
      let same = ap (fields_of_parts group) are in
      let parts : fields_of_parts group (names_in group) ≡ sum_by (λ n. length (filter (λ f. bytes_eq (key f) n) group)) (names_in group) =
      (λ i. sum_by (λ n. length (alike n i)) (names_in group)) in
      omega (arith, few, same, parts)
    where
      in-part : (o q : Bool) → not o ≡ false → (not o || q) ≡ q
      in-part true q e = refl
      in-part false q e = absurd (false≢true (sym e))

      alike : (n : Bytes) → filter (is_of (Some n)) group ≡ filter (λ (f : WrittenField S C). bytes_eq (own_name f.selected.parent.now) n) group
      alike n = kept-alike (is_of (Some n)) (λ f. bytes_eq (own_name f.selected.parent.now) n) group
          (λ f i. in-part (is_object f.selected.parent.now) (bytes_eq (own_name f.selected.parent.now) n) (none f i))

  -- the same, the first of each aside
  pub repeats-within : (group : List (WrittenField S C)) (names : List Bytes) → names ≡ names_in group
      → IsFoundAt (λ f. not (is_object f.selected.parent.now)) group None → repeats_in_parts group names ≤ length group - 1
  repeats-within group names are none =
      let all = parts-within group names are none in
      let fewer = but-first (λ name. length (filter (is_of (Some name)) group)) names in
      omega (arith, all, fewer)

  -- a set that the table does not have is empty
  abbrev pub nothing : WrittenSet S C
  nothing = record { fields = []; inner = [] }

  pub fields-at : (table : SetTable S C) (k : ℕ) → fields_in table k ≡ (get_or table.sets k nothing).fields
  fields-at table k = elim (cases_lt k (length table.sets)) [
    | inl h ↦ ap (λ o. option_map_or (λ (s : WrittenSet S C). s.fields) o []) (slice_get-get_or table.sets k nothing h)
    | inr h ↦ ap (λ o. option_map_or (λ (s : WrittenSet S C). s.fields) o []) (slice_get_past table.sets k h)
        ∙ ap (λ (s : WrittenSet S C). s.fields) (sym (get_or_past table.sets k nothing h))
  ]

  pub sets-within : (table : SetTable S C) (ks : List ℕ) → IsDistinct nat_eq ks → fields_of_sets table ks ≤ fields_written table.sets
  unfolding fields_written
  sets-within table ks apart =
      let few = at-places (λ (s : WrittenSet S C). length s.fields) nothing refl ks table.sets apart in
      let same : fields_of_sets table ks ≡ sum_by (λ k. length (get_or table.sets k nothing).fields) ks = (λ i. sum_by (λ k. length (fields-at table k i)) ks) in
      omega (arith, few, same)

  -- one set more
  pub written-more : (sets : List (WrittenSet S C)) (i : ℕ) (set : WrittenSet S C) → i < length sets → set ≡ get_or sets i set
      → fields_written (take (i + 1) sets) ≡ fields_written (take i sets) + length set.fields
  unfolding fields_written
  written-more sets i set within is =
      sum_by_more (λ (s : WrittenSet S C). length s.fields) sets i set within
      ∙ ap (λ (s : WrittenSet S C). sum_by (λ (x : WrittenSet S C). length x.fields) (take i sets) + length s.fields) (sym is)

  -- what the direct fields are compared
  pub direct-within : (table : SetTable S C) (ks : List ℕ) (old new : ℕ) → IsDistinct nat_eq ks
      → new ≤ old + fields_of_sets table ks * fields_of_sets table ks → new ≤ old + fields_written table.sets * fields_written table.sets
  direct-within table ks old new apart h =
      let few = sets-within table ks apart in
      let squares = mul-le (fields_of_sets table ks) (fields_of_sets table ks) (fields_written table.sets) (fields_written table.sets) few few in
      omega (arith, h, squares)
