-- Groups, one field more.
use Rattle.std.proofs.Common.{◌≡◌, refl, sym, ◌∙◌, ap, subst, ℕ, suc, ◌+◌, ◌<◌, arith, Bool, true, false, not, ◌||◌, nat_lt, List, [], ◌∷◌, ◌++◌, map, length, take, get_or, cond, Some, None, append-nil, inl, inr}
use Rattle.std.specs.List.{Contains, list_any, position, position_or_len, slice_set, AllByRecursion, IsDistinct}
use Rattle.std.specs.Option.{unwrap_or}
use Rattle.std.specs.Str.{bytes_eq}
use Rattle.std.specs.Cmp.Lexicographic.{nat_list_eq_equiv}
use Rattle.std.proofs.lemmas.Bool.{false≢true, ltb-false}
use Rattle.std.proofs.lemmas.List.{map-append, length-append}
use Rattle.std.proofs.lemmas.List.Sums.{prefix_len-le-length, sum_by-set, sum_by_push}
use Rattle.std.proofs.lemmas.List.Elements.{filter-append, Contains-append_left, Contains-append_cases}
use Rattle.std.proofs.lemmas.Map.Keys.{IsDistinct-head, IsDistinct-tail, IsDistinct-push}
use Rattle.std.proofs.lemmas.Map.Views.{list_any-from_Contains}
use Rattle.std.proofs.lemmas.Slice.Eq.{bytes_eq-Decides}
use Rattle.indexmap.specs.IndexSet.{insert_key}
use Rattle.indexmap.proofs.CallerLemmas.{Contains-insert_key}
use Rattle.graphql_names.specs.Names.{Bytes}
use Rattle.graphql_merging.specs.declared.table.WrittenField.{WrittenField}
use Rattle.graphql_merging.proofs.Nested.{one-only, in-nothing}
use Rattle.graphql_bundles.specs.Counted.{fields_of_groups}
use Rattle.graphql_bundles.specs.Groups.{KeyGroup, IsGrouped, under, key_at, begun, takes, put}
use Rattle.graphql_bundles.proofs.ListLemmas.{take-one, map_of, filter_nothing}

-- the place of a group by its key, in a scan
module _ {X : Type 0} (p : Bytes → Bool) where
  by-key : (gs : List (Bytes × X)) → position_or_len (λ g. p g.0) gs ≡ position_or_len p (map (λ g. g.0) gs)
  by-key [] = refl
  by-key (g ∷ gs) = ap (λ n. cond (not (p g.0)) (1 + n) 0) (by-key gs)

  pub scanned : (gs : List (Bytes × X)) → unwrap_or (position (λ g. p g.0) gs) (length gs) ≡ position_or_len p (map (λ g. g.0) gs)
  scanned gs = cases (nat_lt (position_or_len (λ g. p g.0) gs) (length gs)) refl ∙ by-key gs
    where
      cases : (q : Bool) → nat_lt (position_or_len (λ g. p g.0) gs) (length gs) ≡ q
          → unwrap_or (cond q (Some (position_or_len (λ g. p g.0) gs)) None) (length gs) ≡ position_or_len (λ g. p g.0) gs
      cases true t = refl
      cases false t = omega (arith, ltb-false _ _ t, prefix_len-le-length (λ (g : Bytes × X). not (p g.0)) gs)

-- a field is put to its group
module _ {S C : Type 0} (x : WrittenField S C) where
  abbrev names : List (KeyGroup S C) → List Bytes
  names = map (λ g. g.0)

  -- the place of the field's key
  abbrev place : List Bytes → ℕ
  place = position_or_len (bytes_eq (key_at x))

  length-names : (gs : List (KeyGroup S C)) → length (names gs) ≡ length gs
  length-names [] = refl
  length-names (g ∷ gs) = ap suc (length-names gs)

  -- a key that is there stands before the end, and another one after it
  there : (ks : List Bytes) → list_any (bytes_eq (key_at x)) ks ≡ true → place ks < length ks
  there [] t = absurd cc
  there (k ∷ ks) t = cases (bytes_eq (key_at x) k) (there ks) t
    where
      cases : (q : Bool) → (list_any (bytes_eq (key_at x)) ks ≡ true → place ks < length ks) → q || list_any (bytes_eq (key_at x)) ks ≡ true → cond (not q) (1 + place ks) 0 < suc (length ks)
      cases true ih t = omega arith
      cases false ih t = omega (arith, ih t)

  nowhere : (ks : List Bytes) → list_any (bytes_eq (key_at x)) ks ≡ false → place ks ≡ length ks
  nowhere [] t = refl
  nowhere (k ∷ ks) t = cases (bytes_eq (key_at x) k) (nowhere ks) t
    where
      cases : (q : Bool) → (list_any (bytes_eq (key_at x)) ks ≡ false → place ks ≡ length ks) → q || list_any (bytes_eq (key_at x)) ks ≡ false → cond (not q) (1 + place ks) 0 ≡ suc (length ks)
      cases true ih t = absurd cc
      cases false ih t = omega (arith, ih t)

  module _ (n : ℕ) (gs : List (KeyGroup S C)) (at : n ≡ place (names gs)) where
    pub begun-new : n ≡ length gs → gs ++ (key_at x, []) ∷ [] ≡ begun x gs
    begun-new last = cases (list_any (bytes_eq (key_at x)) (names gs)) refl
      where
        cases : (q : Bool) → list_any (bytes_eq (key_at x)) (names gs) ≡ q → gs ++ (key_at x, []) ∷ [] ≡ cond q gs (gs ++ (key_at x, []) ∷ [])
        cases true t = absurd (omega (arith, there (names gs) t, length-names gs, at, last))
        cases false t = refl

    pub begun-old : (n ≡ length gs → ⊥) → gs ≡ begun x gs
    begun-old other = cases (list_any (bytes_eq (key_at x)) (names gs)) refl
      where
        cases : (q : Bool) → list_any (bytes_eq (key_at x)) (names gs) ≡ q → gs ≡ cond q gs (gs ++ (key_at x, []) ∷ [])
        cases true t = refl
        cases false t = absurd (other (at ∙ nowhere (names gs) t ∙ length-names gs))

    -- the place is one of the groups, once the key has one
    pub place-within : n < length (begun x gs)
    place-within = cases (list_any (bytes_eq (key_at x)) (names gs)) refl
      where
        cases : (q : Bool) → list_any (bytes_eq (key_at x)) (names gs) ≡ q → n < length (cond q gs (gs ++ (key_at x, []) ∷ []))
        cases true t = omega (arith, there (names gs) t, length-names gs, at)
        cases false t = omega (arith, nowhere (names gs) t, length-names gs, at, length-append gs ((key_at x, []) ∷ []))

  -- keys stay distinct where one is inserted
  distinct-inserted : (ks : List Bytes) → IsDistinct bytes_eq ks → IsDistinct bytes_eq (insert_key bytes_eq ks (key_at x))
  distinct-inserted ks u = cases (list_any (bytes_eq (key_at x)) ks) refl
    where
      cases : (q : Bool) → list_any (bytes_eq (key_at x)) ks ≡ q → IsDistinct bytes_eq (cond q ks (ks ++ key_at x ∷ []))
      cases true t = u
      cases false t = IsDistinct-push nat_list_eq_equiv ks (key_at x) u t

  keys-begun : (gs : List (KeyGroup S C)) → map (λ g. g.0) (begun x gs) ≡ insert_key bytes_eq (map (λ g. g.0) gs) (key_at x)
  keys-begun gs = cases (list_any (bytes_eq (key_at x)) (map (λ g. g.0) gs))
    where
      cases : (q : Bool) → map (λ (g : KeyGroup S C). g.0) (cond q gs (gs ++ (key_at x, []) ∷ [])) ≡ cond q (map (λ g. g.0) gs) (map (λ g. g.0) gs ++ key_at x ∷ [])
      cases true = refl
      cases false = map-append (λ (g : KeyGroup S C). g.0) gs ((key_at x, []) ∷ [])

  keys-takes : (gs : List (KeyGroup S C)) → map (λ g. g.0) (map (takes x) gs) ≡ map (λ g. g.0) gs
  keys-takes [] = refl
  keys-takes (g ∷ gs) = λ j. one (bytes_eq (key_at x) g.0) j ∷ keys-takes gs j
    where
      one : (q : Bool) → (cond q (g.0, g.1 ++ x ∷ []) g).0 ≡ g.0
      one true = refl
      one false = refl

  pub keys-put : (gs : List (KeyGroup S C)) → map (λ g. g.0) (put x gs) ≡ insert_key bytes_eq (map (λ g. g.0) gs) (key_at x)
  keys-put gs = keys-takes (begun x gs) ∙ keys-begun gs

  passed : (g : KeyGroup S C) → bytes_eq (key_at x) g.0 ≡ false → g ≡ takes x g
  passed g t = rw t refl

  others : (gs : List (KeyGroup S C)) (k : Bytes) → bytes_eq (key_at x) k ≡ true → AllByRecursion (λ y. bytes_eq k y ≡ false) (map (λ g. g.0) gs) → gs ≡ map (takes x) gs
  others [] k t h = refl
  others (g ∷ gs) k t h = λ j. passed g (nat_list_eq_equiv.congr (key_at x) k g.0 t ∙ h.0) j ∷ others gs k t h.1 j

  abbrev with_it : KeyGroup S C → KeyGroup S C
  with_it g = (g.0, g.1 ++ x ∷ [])

  -- the group at a place, with the field
  abbrev Taken : List (KeyGroup S C) → KeyGroup S C → ℕ → Type 0
  Taken gs d n = slice_set gs n (with_it (get_or gs n d)) ≡ map (takes x) gs

  placed : (gs : List (KeyGroup S C)) (d : KeyGroup S C) (n : ℕ) → IsDistinct bytes_eq (map (λ g. g.0) gs) → n ≡ position_or_len (bytes_eq (key_at x)) (map (λ g. g.0) gs) → n < length gs → Taken gs d n
  placed [] d n u at within = absurd (omega arith)
  placed (g ∷ gs) d n u at within =
      cases (λ m. placed gs d m (IsDistinct-tail bytes_eq g.0 (map (λ h. h.0) gs) u)) (bytes_eq (key_at x) g.0) refl at
    where
      cases : ((m : ℕ) → m ≡ position_or_len (bytes_eq (key_at x)) (map (λ h. h.0) gs) → m < length gs → Taken gs d m)
          → (q : Bool) → bytes_eq (key_at x) g.0 ≡ q → n ≡ cond (not q) (1 + position_or_len (bytes_eq (key_at x)) (map (λ h. h.0) gs)) 0 → Taken (g ∷ gs) d n
      cases ih true t is =
          let taken : with_it g ≡ takes x g = rw t refl in
          subst (Taken (g ∷ gs) d) (sym is) (λ j. taken j ∷ others gs g.0 t (IsDistinct-head bytes_eq g.0 (map (λ h. h.0) gs) u) j)
      cases ih false t is =
          let next : n ≡ suc (position_or_len (bytes_eq (key_at x)) (map (λ h. h.0) gs)) = omega (arith, is) in
          subst (Taken (g ∷ gs) d) (sym next) (λ j. passed g t j ∷ ih (position_or_len (bytes_eq (key_at x)) (map (λ h. h.0) gs)) refl (omega (arith, within, next)) j)

  -- the place of the key stays when it is inserted
  place-inserted : (ks : List Bytes) → position_or_len (bytes_eq (key_at x)) ks ≡ position_or_len (bytes_eq (key_at x)) (insert_key bytes_eq ks (key_at x))
  place-inserted ks = cases (list_any (bytes_eq (key_at x)) ks)
    where
      pushed : (ks : List Bytes) → position_or_len (bytes_eq (key_at x)) ks ≡ position_or_len (bytes_eq (key_at x)) (ks ++ key_at x ∷ [])
      pushed [] = rw (nat_list_eq_equiv.refl (key_at x)) refl
      pushed (l ∷ ls) = ap (λ n. cond (not (bytes_eq (key_at x) l)) (1 + n) 0) (pushed ls)

      cases : (q : Bool) → position_or_len (bytes_eq (key_at x)) ks ≡ position_or_len (bytes_eq (key_at x)) (cond q ks (ks ++ key_at x ∷ []))
      cases true = refl
      cases false = pushed ks

  -- the field at the end of the group at its key's place
  pub put-at : (gs begins : List (KeyGroup S C)) (n : ℕ) (g : KeyGroup S C) (fs : List (WrittenField S C)) → begins ≡ begun x gs → IsDistinct bytes_eq (names gs) → n ≡ place (names gs) → g ≡ get_or begins n g
      → fs ≡ g.1 ++ x ∷ [] → slice_set begins n (g.0, fs) ≡ put x gs
  put-at gs begins n g fs are u at own grown =
      let keyed : names begins ≡ insert_key bytes_eq (names gs) (key_at x) = ap names are ∙ keys-begun gs in
      (λ j. slice_set begins n ((own j).0, (grown ∙ ap (λ (h : KeyGroup S C). h.1 ++ x ∷ []) own) j))
      ∙ placed begins g n (subst (IsDistinct bytes_eq) (sym keyed) (distinct-inserted (names gs) u)) (at ∙ place-inserted (names gs) ∙ ap place (sym keyed)) (subst (λ hs. n < length hs) (sym are) (place-within n gs at))
      ∙ ap (map (takes x)) are

  pub distinct-put : (gs : List (KeyGroup S C)) → IsDistinct bytes_eq (names gs) → IsDistinct bytes_eq (names (put x gs))
  distinct-put gs u = subst (IsDistinct bytes_eq) (sym (keys-put gs)) (distinct-inserted (names gs) u)

  -- the groups with the field have one field more
  pub put-counts : (gs begins : List (KeyGroup S C)) (n : ℕ) (g : KeyGroup S C) (fs : List (WrittenField S C)) → begins ≡ begun x gs → n ≡ place (names gs) → g ≡ get_or begins n g
      → fs ≡ g.1 ++ x ∷ [] → fields_of_groups (slice_set begins n (g.0, fs)) ≡ fields_of_groups gs + 1
  put-counts gs begins n g fs are at own grown =
      let short : n < length begins = subst (λ hs. n < length hs) (sym are) (place-within n gs at) in
      let size = λ (h : KeyGroup S C). length h.1 in
      let put = sum_by-set size begins n (g.0, fs) g short in
      let old = ap size own in
      let more = ap length grown ∙ length-append g.1 (x ∷ []) in
      let same = ap fields_of_groups are ∙ cases (list_any (bytes_eq (key_at x)) (map (λ h. h.0) gs)) in
      omega (arith, put, old, more, same)
    where
      cases : (q : Bool) → fields_of_groups (cond q gs (gs ++ (key_at x, []) ∷ [])) ≡ fields_of_groups gs
      cases true = refl
      cases false = let pushed = sum_by_push (λ (h : KeyGroup S C). length h.1) gs (key_at x, []) in omega (arith, pushed)

  -- the groups of the fields with it
  module _ (ys : List (WrittenField S C)) (gs : List (KeyGroup S C)) (are : IsGrouped ys gs) where
    abbrev AreItsOwn : KeyGroup S C → Type 0
    AreItsOwn g = g.1 ≡ under g.0 ys

    equal : (j k : Bytes) → bytes_eq j k ≡ true → j ≡ k
    equal j k e = (bytes_eq-Decides j k).0 e

    none-yet : list_any (bytes_eq (key_at x)) (map (λ g. g.0) gs) ≡ false → under (key_at x) ys ≡ []
    none-yet t = filter_nothing (λ f. bytes_eq (key_at x) (key_at f)) ys (λ f i. cases f (bytes_eq (key_at x) (key_at f)) refl (are.all f i))
      where
        cases : (f : WrittenField S C) (q : Bool) → bytes_eq (key_at x) (key_at f) ≡ q → Contains (map (λ g. g.0) gs) (key_at f) → q ≡ false
        cases f false e i = refl
        cases f true e i =
            let there : Contains (map (λ g. g.0) gs) (key_at x) = subst (Contains (map (λ g. g.0) gs)) (sym (equal (key_at x) (key_at f) e)) i in
            absurd (false≢true (sym t ∙ list_any-from_Contains nat_list_eq_equiv (key_at x) (map (λ g. g.0) gs) there))

    of-begun : (g : KeyGroup S C) → Contains (begun x gs) g → AreItsOwn g
    of-begun g i = cases (list_any (bytes_eq (key_at x)) (map (λ g. g.0) gs)) refl i
      where
        cases : (q : Bool) → list_any (bytes_eq (key_at x)) (map (λ g. g.0) gs) ≡ q → Contains (cond q gs (gs ++ (key_at x, []) ∷ [])) g → AreItsOwn g
        cases true t i = are.of g i
        cases false t i = elim (Contains-append_cases gs ((key_at x, []) ∷ []) g i) [
          | inl j ↦ are.of g j
          | inr j ↦ subst AreItsOwn (one-only {X = KeyGroup S C} (key_at x, []) g j) (sym (none-yet t))
        ]

    taken : (g : KeyGroup S C) → AreItsOwn g → (takes x g).1 ≡ under (takes x g).0 (ys ++ x ∷ [])
    taken g own =
        cases (bytes_eq (key_at x) g.0) (nat_list_eq_equiv.symm (key_at x) g.0)
      where
        parted : under g.0 (ys ++ x ∷ []) ≡ under g.0 ys ++ under g.0 (x ∷ [])
        parted = filter-append (λ f. bytes_eq g.0 (key_at f)) ys (x ∷ [])

        cases : (q : Bool) → q ≡ bytes_eq g.0 (key_at x) → (cond q (g.0, g.1 ++ x ∷ []) g).1 ≡ under (cond q (g.0, g.1 ++ x ∷ []) g).0 (ys ++ x ∷ [])
        cases true e = ap (λ fs. fs ++ x ∷ []) own ∙ ap (λ q. under g.0 ys ++ cond q (x ∷ []) []) e ∙ sym parted
        cases false e = own ∙ sym (append-nil (under g.0 ys)) ∙ ap (λ q. under g.0 ys ++ cond q (x ∷ []) []) e ∙ sym parted

    pub grouped-with : IsGrouped (ys ++ x ∷ []) (put x gs)
    grouped-with = record {
      of = (λ g i. let r = map_of (takes x) (begun x gs) g i in
          subst (λ (h : KeyGroup S C). h.1 ≡ under h.0 (ys ++ x ∷ [])) r.2 (taken r.0 (of-begun r.0 r.1)));
      all = (λ f i. subst (λ ks. Contains ks (key_at f)) (sym (keys-put gs)) (elim (Contains-append_cases ys (x ∷ []) f i) [
        | inl j ↦ kept (key_at f) (are.all f j)
        | inr j ↦ subst (λ g. Contains (insert_key bytes_eq (map (λ g. g.0) gs) (key_at x)) (key_at g)) (one-only x f j)
            (Contains-insert_key bytes_eq equal (map (λ g. g.0) gs) (key_at x))
      ]));
    }
      where
        kept : (k : Bytes) → Contains (map (λ g. g.0) gs) k → Contains (insert_key bytes_eq (map (λ g. g.0) gs) (key_at x)) k
        kept k i = cases (list_any (bytes_eq (key_at x)) (map (λ g. g.0) gs))
          where
            cases : (q : Bool) → Contains (cond q (map (λ g. g.0) gs) (map (λ g. g.0) gs ++ key_at x ∷ [])) k
            cases true = i
            cases false = Contains-append_left (map (λ g. g.0) gs) (key_at x ∷ []) k i

module _ {S C : Type 0} where
  pub grouped-none : IsGrouped {S = S} {C = C} [] []
  grouped-none = record { of = (λ g i. in-nothing g i); all = (λ f i. in-nothing f i) }

  pub grouped-more : (xs : List (WrittenField S C)) (i : ℕ) (x : WrittenField S C) (gs more : List (KeyGroup S C)) → i < length xs → x ≡ get_or xs i x
      → IsGrouped (take i xs) gs → more ≡ put x gs → IsGrouped (take (i + 1) xs) more
  grouped-more xs i x gs more within is are e =
      subst (IsGrouped (take (i + 1) xs)) (sym e) (subst (λ ys. IsGrouped ys (put x gs)) (take-one xs i x within is) (grouped-with x (take i xs) gs are))
