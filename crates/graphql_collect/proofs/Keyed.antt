-- Groups, one field more.
use Rattle.std.proofs.Common.{◌≡◌, refl, sym, ◌∙◌, ap, subst, ℕ, suc, ◌+◌, ◌<◌, arith, Bool, true, false, not, ◌||◌, nat_lt, List, [], ◌∷◌, ◌++◌, map, length, take, get_or, cond, append-nil, append_assoc, length-append}
use Rattle.std.specs.List.{list_any, position_or_len, slice_set, AllByRecursion, IsDistinct}
use Rattle.std.specs.Str.{bytes_eq}
use Rattle.std.specs.Cmp.Lexicographic.{nat_list_eq_equiv}
use Rattle.std.proofs.lemmas.Bool.{ltb-true, ltb-false}
use Rattle.std.proofs.lemmas.List.{take_more, map-append, get_or-map, length-map}
use Rattle.std.proofs.lemmas.List.Sums.{position_or_len_is}
use Rattle.std.proofs.lemmas.List.Elements.{filter-append}
use Rattle.std.proofs.lemmas.Map.Keys.{IsDistinct-head, IsDistinct-tail, IsDistinct-push}
use Rattle.std.proofs.lemmas.Slice.Eq.{bytes_eq-Decides}
use Rattle.indexmap.specs.IndexSet.{insert_key}
use Rattle.graphql_collected.specs.declared.collected_field.CollectedField.{CollectedField}
use Rattle.graphql_tree.specs.declared.document.Fragment.{Fragment}
use Rattle.graphql_names.specs.Names.{Bytes}
use Rattle.graphql_written_out.specs.Fields.{Found}
use Rattle.graphql_written_out.specs.Groups.{keys_after, keys, under, groups}
use Rattle.graphql_collected.specs.Occurrences.{found_field}
use Rattle.graphql_collect.specs.Grouped.{Lent, Group, all_found, group_found, key_at, begun, takes, put}
use Rattle.graphql_semantics.proofs.GroupRepeats.{any-more, any-last}

not-there : (k other : Bytes) (seen more : List Bytes) → list_any (bytes_eq other) seen ≡ true → list_any (bytes_eq k) (seen ++ more) ≡ false → bytes_eq k other ≡ false
not-there k other seen more t h = cases (bytes_eq k other) refl
  where
    cases : (q : Bool) → bytes_eq k other ≡ q → q ≡ false
    cases false e = refl
    cases true e =
        let same : k ≡ other = (bytes_eq-Decides k other).0 e in
        let there : list_any (bytes_eq k) (seen ++ more) ≡ true = any-more (bytes_eq k) seen more (subst (λ z. list_any (bytes_eq z) seen ≡ true) (sym same) t) in
        sym there ∙ h

module _ {S : Type 0} where
  -- the keys, one field more
  keys-last : (y : Found S) (done : List Bytes) (xs : List (Found S))
      → keys_after done (xs ++ y ∷ []) ≡ keys_after done xs ++ cond (list_any (bytes_eq y.head.key) (done ++ keys_after done xs)) [] (y.head.key ∷ [])
  keys-last y done [] = rw append-nil refl
  keys-last y done (x ∷ xs) =
      elim (list_any (bytes_eq x.head.key) done) as (λ q. cond q (keys_after done (xs ++ y ∷ [])) (x.head.key ∷ keys_after (done ++ x.head.key ∷ []) (xs ++ y ∷ []))
      ≡ cond q (keys_after done xs) (x.head.key ∷ keys_after (done ++ x.head.key ∷ []) xs)
      ++ cond (list_any (bytes_eq y.head.key) (done ++ cond q (keys_after done xs) (x.head.key ∷ keys_after (done ++ x.head.key ∷ []) xs))) [] (y.head.key ∷ [])) [
        | true ↦ keys-last y done xs
        | false ↦ ap (λ ks. x.head.key ∷ ks) (keys-last y (done ++ x.head.key ∷ []) xs
            ∙ ap (λ ks. keys_after (done ++ x.head.key ∷ []) xs ++ cond (list_any (bytes_eq y.head.key) ks) [] (y.head.key ∷ [])) (append_assoc done (x.head.key ∷ []) (keys_after (done ++ x.head.key ∷ []) xs)))
      ]

  -- a key that is not among the keys has no fields
  none-under : (k : Bytes) (xs : List (Found S)) (done : List Bytes) → list_any (bytes_eq k) (done ++ keys_after done xs) ≡ false → under xs k ≡ []
  none-under k [] done h = refl
  none-under k (x ∷ xs) done h = cases (none-under k xs) (list_any (bytes_eq x.head.key) done) refl h
    where
      cases : ((other : List Bytes) → list_any (bytes_eq k) (other ++ keys_after other xs) ≡ false → under xs k ≡ [])
          → (q : Bool) → list_any (bytes_eq x.head.key) done ≡ q
          → list_any (bytes_eq k) (done ++ cond q (keys_after done xs) (x.head.key ∷ keys_after (done ++ x.head.key ∷ []) xs)) ≡ false
          → cond (bytes_eq k x.head.key) (x ∷ under xs k) (under xs k) ≡ []
      cases ih true t n = rw (not-there k x.head.key done (keys_after done xs) t n) (ih done n)
      cases ih false t n =
          let after : list_any (bytes_eq k) ((done ++ x.head.key ∷ []) ++ keys_after (done ++ x.head.key ∷ []) xs) ≡ false =
          ap (list_any (bytes_eq k)) (append_assoc done (x.head.key ∷ []) (keys_after (done ++ x.head.key ∷ []) xs)) ∙ n in
          rw (not-there k x.head.key (done ++ x.head.key ∷ []) (keys_after (done ++ x.head.key ∷ []) xs) (any-last x.head.key done) after)
          (ih (done ++ x.head.key ∷ []) after)

  abbrev pair : Bytes → List (Found S) → Bytes × List (Found S)
  pair key fs = (key, fs)

  abbrev by_key : List (Found S) → Bytes → Bytes × List (Found S)
  by_key xs key = (key, under xs key)

  module _ (y : Found S) where
    -- what the groups are, one field more
    abbrev pub opened : List (Bytes × List (Found S)) → List (Bytes × List (Found S))
    opened gs = cond (list_any (bytes_eq y.head.key) (map (λ g. g.0) gs)) gs (gs ++ (y.head.key, []) ∷ [])

    abbrev pub joins : Bytes × List (Found S) → Bytes × List (Found S)
    joins g = cond (bytes_eq y.head.key g.0) (g.0, g.1 ++ y ∷ []) g

    joins-one : (xs : List (Found S)) (k : Bytes) → joins (by_key xs k) ≡ by_key (xs ++ y ∷ []) k
    joins-one xs k =
        cases (bytes_eq y.head.key k)
        ∙ ap (pair k) (ap (λ q. under xs k ++ cond q (y ∷ []) []) (nat_list_eq_equiv.symm y.head.key k) ∙ sym (filter-append (λ x. bytes_eq k x.head.key) xs (y ∷ [])))
      where
        cases : (q : Bool) → cond q (pair k (under xs k ++ y ∷ [])) (pair k (under xs k)) ≡ pair k (under xs k ++ cond q (y ∷ []) [])
        cases true = refl
        cases false = rw append-nil refl

    joins-all : (xs : List (Found S)) (ks : List Bytes) → map joins (map (by_key xs) ks) ≡ map (by_key (xs ++ y ∷ [])) ks
    joins-all xs [] = refl
    joins-all xs (k ∷ ks) = λ j. joins-one xs k j ∷ joins-all xs ks j

    the-keys : (xs : List (Found S)) (ks : List Bytes) → map (λ g. g.0) (map (by_key xs) ks) ≡ ks
    the-keys xs [] = refl
    the-keys xs (k ∷ ks) = ap (λ rest. k ∷ rest) (the-keys xs ks)

    pub groups-last : (xs : List (Found S)) → map joins (opened (groups xs)) ≡ groups (xs ++ y ∷ [])
    groups-last xs =
        ap (λ ks. map joins (cond (list_any (bytes_eq y.head.key) ks) (groups xs) (groups xs ++ (y.head.key, []) ∷ []))) (the-keys xs (keys xs))
        ∙ cases (list_any (bytes_eq y.head.key) (keys xs)) refl
        ∙ sym (ap (map (by_key (xs ++ y ∷ []))) (keys-last y [] xs))
      where
        cases : (q : Bool) → list_any (bytes_eq y.head.key) (keys xs) ≡ q
            → map joins (cond q (groups xs) (groups xs ++ (y.head.key, []) ∷ [])) ≡ map (by_key (xs ++ y ∷ [])) (keys xs ++ cond q [] (y.head.key ∷ []))
        cases true t = joins-all xs (keys xs) ∙ ap (map (by_key (xs ++ y ∷ []))) (sym (append-nil (keys xs)))
        cases false t =
            ap (λ fs. map joins (groups xs ++ (y.head.key, fs) ∷ [])) (sym (none-under y.head.key xs [] t))
            ∙ ap (map joins) (sym (map-append (by_key xs) (keys xs) (y.head.key ∷ [])))
            ∙ joins-all xs (keys xs ++ y.head.key ∷ [])

-- the first groups have keys that fail
abbrev pub ArePassed : {X : Type 0} → (Bytes → Bool) → List (Bytes × X) → ℕ → Type 0
ArePassed p gs n = (k : ℕ) → k < n → p (get_or (map (λ g. g.0) gs) k []) ≡ false

-- the place of a group by its key, in a scan
module _ {X : Type 0} (p : Bytes → Bool) (gs : List (Bytes × X)) where
  -- the keys stand at the groups' places
  pub key-there : (k : ℕ) (g : Bytes × X) → k < length gs → g ≡ get_or gs k g → get_or (map (λ h. h.0) gs) k [] ≡ g.0
  key-there k g within is = get_or-map (λ (h : Bytes × X). h.0) gs k g [] within ∙ ap (λ h. h.0) (sym is)

  pub passed-more : (n : ℕ) (g : Bytes × X) → n < length gs → g ≡ get_or gs n g → p g.0 ≡ false → ArePassed p gs n → ArePassed p gs (n + 1)
  passed-more n g within is fails passed = λ k less. cases k (nat_lt k n) refl less
    where
      cases : (k : ℕ) (q : Bool) → nat_lt k n ≡ q → k < n + 1 → p (get_or (map (λ h. h.0) gs) k []) ≡ false
      cases k true t less = passed k (ltb-true k n t)
      cases k false t less = subst (λ m. p (get_or (map (λ h. h.0) gs) m []) ≡ false) (omega (arith, less, ltb-false k n t)) (ap p (key-there n g within is) ∙ fails)

  pub stops-at : (n : ℕ) (g : Bytes × X) → n < length gs → g ≡ get_or gs n g → p g.0 ≡ true → ArePassed p gs n → n ≡ position_or_len p (map (λ h. h.0) gs)
  stops-at n g within is passes passed =
      sym (position_or_len_is p (map (λ h. h.0) gs) n [] (omega (arith, within, length-map gs (λ h. h.0))) passed (λ _. ap p (key-there n g within is) ∙ passes))

  pub stops-after : (n : ℕ) → n ≡ length gs → ArePassed p gs n → n ≡ position_or_len p (map (λ h. h.0) gs)
  stops-after n all passed =
      sym (position_or_len_is p (map (λ h. h.0) gs) n [] (omega (arith, all, length-map gs (λ h. h.0))) passed (λ less. absurd (omega (arith, less, all, length-map gs (λ h. h.0)))))

-- a field is put to its group
module _ {S : Type 0} (x : CollectedField S) where
  abbrev names : List (Group S) → List Bytes
  names = map (λ g. g.0)

  -- the place of the field's key
  abbrev place : List Bytes → ℕ
  place = position_or_len (bytes_eq (key_at x))

  length-names : (gs : List (Group S)) → length (names gs) ≡ length gs
  length-names [] = refl
  length-names (g ∷ gs) = ap suc (length-names gs)

  -- a key that is there stands before the end, and another one after it
  there : (ks : List Bytes) → list_any (bytes_eq (key_at x)) ks ≡ true → place ks < length ks
  there [] t = absurd cc
  there (k ∷ ks) t = cases (bytes_eq (key_at x) k) (there ks) t
    where
      cases : (q : Bool) → (list_any (bytes_eq (key_at x)) ks ≡ true → place ks < length ks) → q || list_any (bytes_eq (key_at x)) ks ≡ true → cond (not q) (1 + place ks) 0 < suc (length ks)
      cases true ih t = omega arith
      cases false ih t = omega (arith, ih t)

  nowhere : (ks : List Bytes) → list_any (bytes_eq (key_at x)) ks ≡ false → place ks ≡ length ks
  nowhere [] t = refl
  nowhere (k ∷ ks) t = cases (bytes_eq (key_at x) k) (nowhere ks) t
    where
      cases : (q : Bool) → (list_any (bytes_eq (key_at x)) ks ≡ false → place ks ≡ length ks) → q || list_any (bytes_eq (key_at x)) ks ≡ false → cond (not q) (1 + place ks) 0 ≡ suc (length ks)
      cases true ih t = absurd cc
      cases false ih t = omega (arith, ih t)

  module _ (n : ℕ) (gs : List (Group S)) (at : n ≡ place (names gs)) where
    pub begun-new : n ≡ length gs → gs ++ (key_at x, []) ∷ [] ≡ begun x gs
    begun-new last = cases (list_any (bytes_eq (key_at x)) (names gs)) refl
      where
        cases : (q : Bool) → list_any (bytes_eq (key_at x)) (names gs) ≡ q → gs ++ (key_at x, []) ∷ [] ≡ cond q gs (gs ++ (key_at x, []) ∷ [])
        cases true t = absurd (omega (arith, there (names gs) t, length-names gs, at, last))
        cases false t = refl

    pub begun-old : (n ≡ length gs → ⊥) → gs ≡ begun x gs
    begun-old other = cases (list_any (bytes_eq (key_at x)) (names gs)) refl
      where
        cases : (q : Bool) → list_any (bytes_eq (key_at x)) (names gs) ≡ q → gs ≡ cond q gs (gs ++ (key_at x, []) ∷ [])
        cases true t = refl
        cases false t = absurd (other (at ∙ nowhere (names gs) t ∙ length-names gs))

    -- the place is one of the groups, once the key has one
    pub place-within : n < length (begun x gs)
    place-within = cases (list_any (bytes_eq (key_at x)) (names gs)) refl
      where
        cases : (q : Bool) → list_any (bytes_eq (key_at x)) (names gs) ≡ q → n < length (cond q gs (gs ++ (key_at x, []) ∷ []))
        cases true t = omega (arith, there (names gs) t, length-names gs, at)
        cases false t = omega (arith, nowhere (names gs) t, length-names gs, at, length-append gs ((key_at x, []) ∷ []))

  -- keys stay distinct where one is inserted
  distinct-inserted : (ks : List Bytes) → IsDistinct bytes_eq ks → IsDistinct bytes_eq (insert_key bytes_eq ks (key_at x))
  distinct-inserted ks u = cases (list_any (bytes_eq (key_at x)) ks) refl
    where
      cases : (q : Bool) → list_any (bytes_eq (key_at x)) ks ≡ q → IsDistinct bytes_eq (cond q ks (ks ++ key_at x ∷ []))
      cases true t = u
      cases false t = IsDistinct-push nat_list_eq_equiv ks (key_at x) u t

  keys-begun : (gs : List (Group S)) → map (λ g. g.0) (begun x gs) ≡ insert_key bytes_eq (map (λ g. g.0) gs) (key_at x)
  keys-begun gs = cases (list_any (bytes_eq (key_at x)) (map (λ g. g.0) gs))
    where
      cases : (q : Bool) → map (λ (g : Group S). g.0) (cond q gs (gs ++ (key_at x, []) ∷ [])) ≡ cond q (map (λ g. g.0) gs) (map (λ g. g.0) gs ++ key_at x ∷ [])
      cases true = refl
      cases false = map-append (λ (g : Group S). g.0) gs ((key_at x, []) ∷ [])

  keys-takes : (gs : List (Group S)) → map (λ g. g.0) (map (takes x) gs) ≡ map (λ g. g.0) gs
  keys-takes [] = refl
  keys-takes (g ∷ gs) = λ j. one (bytes_eq (key_at x) g.0) j ∷ keys-takes gs j
    where
      one : (q : Bool) → (cond q (g.0, g.1 ++ x ∷ []) g).0 ≡ g.0
      one true = refl
      one false = refl

  pub keys-put : (gs : List (Group S)) → map (λ g. g.0) (put x gs) ≡ insert_key bytes_eq (map (λ g. g.0) gs) (key_at x)
  keys-put gs = keys-takes (begun x gs) ∙ keys-begun gs

  passed : (g : Group S) → bytes_eq (key_at x) g.0 ≡ false → g ≡ takes x g
  passed g t = rw t refl

  others : (gs : List (Group S)) (k : Bytes) → bytes_eq (key_at x) k ≡ true → AllByRecursion (λ y. bytes_eq k y ≡ false) (map (λ g. g.0) gs) → gs ≡ map (takes x) gs
  others [] k t h = refl
  others (g ∷ gs) k t h = λ j. passed g (nat_list_eq_equiv.congr (key_at x) k g.0 t ∙ h.0) j ∷ others gs k t h.1 j

  abbrev with_it : Group S → Group S
  with_it g = (g.0, g.1 ++ x ∷ [])

  -- the group at a place, with the field
  abbrev Taken : List (Group S) → Group S → ℕ → Type 0
  Taken gs d n = slice_set gs n (with_it (get_or gs n d)) ≡ map (takes x) gs

  placed : (gs : List (Group S)) (d : Group S) (n : ℕ) → IsDistinct bytes_eq (map (λ g. g.0) gs) → n ≡ position_or_len (bytes_eq (key_at x)) (map (λ g. g.0) gs) → n < length gs → Taken gs d n
  placed [] d n u at within = absurd (omega arith)
  placed (g ∷ gs) d n u at within =
      cases (λ m. placed gs d m (IsDistinct-tail bytes_eq g.0 (map (λ h. h.0) gs) u)) (bytes_eq (key_at x) g.0) refl at
    where
      cases : ((m : ℕ) → m ≡ position_or_len (bytes_eq (key_at x)) (map (λ h. h.0) gs) → m < length gs → Taken gs d m)
          → (q : Bool) → bytes_eq (key_at x) g.0 ≡ q → n ≡ cond (not q) (1 + position_or_len (bytes_eq (key_at x)) (map (λ h. h.0) gs)) 0 → Taken (g ∷ gs) d n
      cases ih true t is =
          let taken : with_it g ≡ takes x g = rw t refl in
          subst (Taken (g ∷ gs) d) (sym is) (λ j. taken j ∷ others gs g.0 t (IsDistinct-head bytes_eq g.0 (map (λ h. h.0) gs) u) j)
      cases ih false t is =
          let next : n ≡ suc (position_or_len (bytes_eq (key_at x)) (map (λ h. h.0) gs)) = omega (arith, is) in
          subst (Taken (g ∷ gs) d) (sym next) (λ j. passed g t j ∷ ih (position_or_len (bytes_eq (key_at x)) (map (λ h. h.0) gs)) refl (omega (arith, within, next)) j)

  -- the place of the key stays when it is inserted
  place-inserted : (ks : List Bytes) → position_or_len (bytes_eq (key_at x)) ks ≡ position_or_len (bytes_eq (key_at x)) (insert_key bytes_eq ks (key_at x))
  place-inserted ks = cases (list_any (bytes_eq (key_at x)) ks)
    where
      pushed : (ks : List Bytes) → position_or_len (bytes_eq (key_at x)) ks ≡ position_or_len (bytes_eq (key_at x)) (ks ++ key_at x ∷ [])
      pushed [] = rw (nat_list_eq_equiv.refl (key_at x)) refl
      pushed (l ∷ ls) = ap (λ n. cond (not (bytes_eq (key_at x) l)) (1 + n) 0) (pushed ls)

      cases : (q : Bool) → position_or_len (bytes_eq (key_at x)) ks ≡ position_or_len (bytes_eq (key_at x)) (cond q ks (ks ++ key_at x ∷ []))
      cases true = refl
      cases false = pushed ks

  -- the field at the end of the group at its key's place
  pub put-at : (gs begins : List (Group S)) (n : ℕ) (g : Group S) (fs : Lent S) → begins ≡ begun x gs → IsDistinct bytes_eq (names gs) → n ≡ place (names gs) → g ≡ get_or begins n g
      → fs ≡ g.1 ++ x ∷ [] → slice_set begins n (g.0, fs) ≡ put x gs
  put-at gs begins n g fs are u at own grown =
      let keyed : names begins ≡ insert_key bytes_eq (names gs) (key_at x) = ap names are ∙ keys-begun gs in
      (λ j. slice_set begins n ((own j).0, (grown ∙ ap (λ (h : Group S). h.1 ++ x ∷ []) own) j))
      ∙ placed begins g n (subst (IsDistinct bytes_eq) (sym keyed) (distinct-inserted (names gs) u)) (at ∙ place-inserted (names gs) ∙ ap place (sym keyed)) (subst (λ hs. n < length hs) (sym are) (place-within n gs at))
      ∙ ap (map (takes x)) are

  pub distinct-put : (gs : List (Group S)) → IsDistinct bytes_eq (names gs) → IsDistinct bytes_eq (names (put x gs))
  distinct-put gs u = subst (IsDistinct bytes_eq) (sym (keys-put gs)) (distinct-inserted (names gs) u)

-- the same of what is found
module _ {S : Type 0} (fragments : List (Fragment S)) (x : CollectedField S) where
  abbrev it : Found S
  it = found_field fragments x.field.now

  opens-found : (gs : List (Group S)) → map (group_found fragments) (begun x gs) ≡ opened it (map (group_found fragments) gs)
  opens-found gs =
      cases (list_any (bytes_eq (key_at x)) (map (λ g. g.0) gs))
      ∙ ap (λ ks. cond (list_any (bytes_eq (key_at x)) ks) (map (group_found fragments) gs) (map (group_found fragments) gs ++ (key_at x, []) ∷ [])) (sym (names gs))
    where
      cases : (q : Bool) → map (group_found fragments) (cond q gs (gs ++ (key_at x, []) ∷ [])) ≡ cond q (map (group_found fragments) gs) (map (group_found fragments) gs ++ (key_at x, []) ∷ [])
      cases true = refl
      cases false = map-append (group_found fragments) gs ((key_at x, []) ∷ [])

      names : (hs : List (Group S)) → map (λ g. g.0) (map (group_found fragments) hs) ≡ map (λ g. g.0) hs
      names [] = refl
      names (h ∷ hs) = ap (λ rest. h.0 ∷ rest) (names hs)

  joins-found : (gs : List (Group S)) → map (group_found fragments) (map (takes x) gs) ≡ map (joins it) (map (group_found fragments) gs)
  joins-found [] = refl
  joins-found (g ∷ gs) = λ j. one (bytes_eq (key_at x) g.0) j ∷ joins-found gs j
    where
      one : (q : Bool) → group_found fragments (cond q (g.0, g.1 ++ x ∷ []) g) ≡ cond q (g.0, all_found fragments g.1 ++ it ∷ []) (group_found fragments g)
      one true = λ j. (g.0, map-append (λ (y : CollectedField S). found_field fragments y.field.now) g.1 (x ∷ []) j)
      one false = refl

  -- one field more
  pub grouped-more : (xs : Lent S) (i : ℕ) (gs more : List (Group S)) → i < length xs → x ≡ get_or xs i x
      → map (group_found fragments) gs ≡ groups (all_found fragments (take i xs)) → more ≡ put x gs → map (group_found fragments) more ≡ groups (all_found fragments (take (i + 1) xs))
  grouped-more xs i gs more within is h e =
      ap (map (group_found fragments)) e ∙ joins-found (begun x gs) ∙ ap (map (joins it)) (opens-found gs) ∙ ap (λ hs. map (joins it) (opened it hs)) h
      ∙ groups-last it (all_found fragments (take i xs))
      ∙ ap groups (sym (ap (all_found fragments) (take_more xs i x within ∙ ap (λ z. take i xs ++ z ∷ []) (sym is)) ∙ map-append (λ (y : CollectedField S). found_field fragments y.field.now) (take i xs) (x ∷ [])))
