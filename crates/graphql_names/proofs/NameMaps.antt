-- Items that are looked up by their names.
use Rattle.std.proofs.Common.{◌≡◌, zero, suc, ◌+◌, ◌-◌, ◌≤◌, Bool, true, false, cond, ◌&&◌, ◌||◌, List, [], ◌∷◌, map, Some, None, Ordering, Less, Equal, Greater, Err, Option, ℕ, ◌<◌, length, get_or, slice_get, HoldsAt, IsSortedBy, All, insert, find, take, drop, take-append-drop, if◌then◌else◌, set, lt-ltb, get_or-set_same, length-set, inl, inr, is_lt, is_eq, Contains, IsPermutation, count_by, nat_cmp, le-ltb, sym, refl, ap, ◌∙◌, subst, arith}
use Rattle.std.specs.List.{AllByRecursion, AllAdjacentBelow, AllWithin, list_any}
use Rattle.std.specs.List.Sorted.{IsStrictlySortedBy, IsNonDecreasingBy, IsBinarySearchResult, IsPartitionPoint}
use Rattle.std.specs.Ordering.{ordering_index, ordering_reverse}
use Rattle.std.specs.Str.{bytes_eq}
use Rattle.std.specs.Cmp.{unsigned_ties}
use Rattle.std.specs.Cmp.Lexicographic.{slice_cmp, lists_ties}
use Rattle.std.proofs.lemmas.Cmp.{nat_list_cmp_total}
use Rattle.std.proofs.Math.Bool.{or-false}
use Rattle.std.proofs.Math.ListN.{get_or-map as get_or-map-default}
use Rattle.std.proofs.lemmas.Bool.{cases_lt, both_ways}
use Rattle.std.proofs.lemmas.List.{length-map, get_or-map}
use Rattle.std.proofs.lemmas.List.Elements.{Contains-append_right, All-from_recursion, All-contains, recursion_from_All, All-map, All-append, All-take, All-drop, All-cons}
use Rattle.std.proofs.lemmas.List.Sorted.{searchable_from_sorted}
use Rattle.std.proofs.lemmas.List.Sums.{sum_by-cons, sum_by-take-drop, sum_by-drop_more}
use Rattle.std.proofs.lemmas.List.Folds.{find_past, find-append}
use Rattle.std.proofs.lemmas.List.Edits.{length-insert, get_or-insert_at}
use Rattle.std.proofs.Math.Seq.{map-set_same}
use Rattle.std.proofs.lemmas.Map.Keys.{sorted_head, sorted_tail, Less-from_sorted, sorted_from_all_adjacent}
use Rattle.std.proofs.lemmas.Option.{same_Some, slice_get_cases}
use Rattle.graphql_names.specs.Names.{Bytes, stands_twice, is_named, named, passes, IsByName}
use Rattle.graphql_names.proofs.NameLemmas.{same_bytes, eq_itself, eq_either_way, differ_below, stands_twice-moved}

-- the name stands among none of those above it
abbrev Above : Bytes → List Bytes → Type 0
Above name names = AllByRecursion (λ later. slice_cmp nat_cmp name later ≡ Less) names

none_above : (name : Bytes) (names : List Bytes) → Above name names → count_by (bytes_eq name) names ≡ 0
none_above name [] above = refl
none_above name (later ∷ names) above =
    let apart = differ_below name later above.0 in
    let rest = none_above name names above.1 in
    sum_by-cons (λ n. cond (bytes_eq name n) 1 0) later names ∙ (rw (apart, rest))

once_in_order : (name : Bytes) (names : List Bytes) → IsStrictlySortedBy (slice_cmp nat_cmp) names → count_by (bytes_eq name) names ≤ 1
once_in_order name [] ordered = omega arith
once_in_order name (first ∷ names) ordered =
    let rest = once_in_order name names (sorted_tail (slice_cmp nat_cmp) first names ordered) in
    rw (sum_by-cons (λ n. cond (bytes_eq name n) 1 0) first names) (either (bytes_eq name first) refl rest)
  where
    either : (b : Bool) → bytes_eq name first ≡ b → count_by (bytes_eq name) names ≤ 1 → cond b 1 0 + count_by (bytes_eq name) names ≤ 1
    either true is rest =
        let above = subst (λ n. Above n names) (sym (same_bytes name first is)) (sorted_head (slice_cmp nat_cmp) first names ordered) in
        omega (arith, none_above name names above)
    either false is rest = omega arith

module _ {A : Type 0} (name_of : A → Bytes) where
  -- an item that is found has the name, and is one of the items
  pub found_is_in : (items : List A) (name : Bytes) (x : A) → named name_of items name ≡ Some x → (bytes_eq (name_of x) name ≡ true) × Contains items x
  found_is_in [] name x is = absurd (cc)
  found_is_in (y ∷ items) name x is = either (bytes_eq (name_of y) name) refl is (found_is_in items name x)
    where
      either : (b : Bool) → bytes_eq (name_of y) name ≡ b → cond b (Some y) (named name_of items name) ≡ Some x
          → (named name_of items name ≡ Some x → (bytes_eq (name_of x) name ≡ true) × Contains items x) → (bytes_eq (name_of x) name ≡ true) × Contains (y ∷ items) x
      either true has is later =
          let same = same_Some y x is in (subst (λ z. bytes_eq (name_of z) name ≡ true) same has, (0, omega arith, same))
      either false differs is later = ((later is).0, Contains-append_right (y ∷ []) items x (later is).1)

  -- among items in order, none of those after one has its name
  none_named : (name : Bytes) (items : List A) → Above name (map name_of items) → named name_of items name ≡ None
  none_named name [] above = refl
  none_named name (y ∷ items) above =
      let apart = eq_either_way (name_of y) name ∙ differ_below name (name_of y) above.0 in
      rw (apart, none_named name items above.1)

  none_passes : (test : A → Bool) (name : Bytes) (items : List A) → Above name (map name_of items) → list_any (λ x. bytes_eq (name_of x) name && test x) items ≡ false
  none_passes test name [] above = refl
  none_passes test name (y ∷ items) above =
      let apart = eq_either_way (name_of y) name ∙ differ_below name (name_of y) above.0 in
      rw (apart, none_passes test name items above.1)

  -- whether an item of a name passes is whether the item of that name does
  pub any_named : (test : A → Bool) (items : List A) (name : Bytes) → IsByName name_of items → list_any (λ x. bytes_eq (name_of x) name && test x) items ≡ passes test (named name_of items name)
  any_named test [] name ordered = refl
  any_named test (y ∷ items) name ordered =
      either (bytes_eq (name_of y) name) refl (any_named test items name (sorted_tail (slice_cmp nat_cmp) (name_of y) (map name_of items) ordered))
    where
      either : (b : Bool) → bytes_eq (name_of y) name ≡ b
          → list_any (λ x. bytes_eq (name_of x) name && test x) items ≡ passes test (named name_of items name)
          → (b && test y || list_any (λ x. bytes_eq (name_of x) name && test x) items) ≡ passes test (cond b (Some y) (named name_of items name))
      either true is later =
          let above = subst (λ n. Above n (map name_of items)) (same_bytes (name_of y) name is) (sorted_head (slice_cmp nat_cmp) (name_of y) (map name_of items) ordered) in
          rw (none_passes test name items above) (or-false (test y))
      either false is later = later

  has_name : (items : List A) (x : A) → Contains items x → Contains (map name_of items) (name_of x)
  has_name items x (k, within, is) = (k, rw (length-map items name_of) within, get_or-map name_of items k x (name_of x) within ∙ ap name_of is)

  -- an item of different names in order is the one that its name finds
  pub in_is_found : (items : List A) (x : A) → IsByName name_of items → Contains items x → named name_of items (name_of x) ≡ Some x
  in_is_found [] x ordered (k, within, is) = absurd (omega arith)
  in_is_found (y ∷ items) x ordered (zero, within, is) = rw is (rw (eq_itself (name_of x)))
  in_is_found (y ∷ items) x ordered (suc k, within, is) =
      let later : Contains items x = (k, omega arith, is) in
      let above = All-from_recursion (λ n. slice_cmp nat_cmp (name_of y) n ≡ Less) (map name_of items) (sorted_head (slice_cmp nat_cmp) (name_of y) (map name_of items) ordered) in
      let less = All-contains (λ n. slice_cmp nat_cmp (name_of y) n ≡ Less) (map name_of items) (name_of x) above (has_name items x later) in
      rw (differ_below (name_of y) (name_of x) less) (in_is_found items x (sorted_tail (slice_cmp nat_cmp) (name_of y) (map name_of items) ordered) later)

  -- in the order of the names none stands twice
  pub stands_once : (items : List A) → IsByName name_of items → (name : Bytes) → stands_twice (map name_of items) name ≡ false
  stands_once items ordered name = le-ltb 1 _ (once_in_order name (map name_of items) ordered)

-- equal names by their order
same_in_order : (a b : Bytes) → slice_cmp nat_cmp a b ≡ Equal → a ≡ b
same_in_order a b equal = same_bytes a b (lists_ties nat_cmp unsigned_ties a b ∙ ap is_eq equal)

above_differs : (a b : Bytes) → slice_cmp nat_cmp a b ≡ Greater → bytes_eq a b ≡ false
above_differs a b greater = lists_ties nat_cmp unsigned_ties a b ∙ ap is_eq greater

-- how the names of items in order compare with a name, as a binary search asks it
module _ {A : Type 0} (name_of : A → Bytes) where
  abbrev compared : Bytes → A → Ordering
  compared name item = slice_cmp nat_cmp (name_of item) name

  below_later : (items : List A) (i j : ℕ) (d : A) → IsByName name_of items → i < j → j < length items → slice_cmp nat_cmp (name_of (get_or items i d)) (name_of (get_or items j d)) ≡ Less
  below_later items i j d ordered first within =
      let less = Less-from_sorted (slice_cmp nat_cmp) (map name_of items) i j (name_of d) ordered first (rw (length-map items name_of) within) in
      rw (← get_or-map-default name_of items i d, ← get_or-map-default name_of items j d) less

  never_fall : (items : List A) → IsByName name_of items → IsSortedBy (λ a b. is_lt (slice_cmp nat_cmp (name_of a) (name_of b))) items
  never_fall items ordered k d low within =
      let less = below_later items k (k + 1) d ordered (omega arith) within in
      ap is_lt (nat_list_cmp_total.antisymm (name_of (get_or items (k + 1) d)) (name_of (get_or items k d)) ∙ ap ordering_reverse less)

  rises : (items : List A) (name : Bytes) → IsByName name_of items → IsNonDecreasingBy (λ item. ordering_index (compared name item)) items
  rises items name ordered = searchable_from_sorted nat_list_cmp_total name_of items name (never_fall items ordered)

  -- the item at the place that a binary search found
  pub found_at : (items : List A) (name : Bytes) (place : ℕ) → IsByName name_of items → place < length items → HoldsAt (λ item. compared name item ≡ Equal) items place → slice_get items place ≡ named name_of items name
  found_at items name place ordered within equal = elim (slice_get_cases items place).1 [
    | inl (x, inside, gives, at) ↦
        let same : name_of x ≡ name = subst (λ y. name_of y ≡ name) at (same_in_order (name_of (get_or items place x)) name (equal x)) in
        gives ∙ sym (subst (λ n. named name_of items n ≡ Some x) same (in_is_found name_of items x ordered (place, inside, at)))
    | inr (past, gives) ↦ absurd (omega arith)
  ]

  -- no item has the name that a binary search did not find
  pub absent_at : (items : List A) (name : Bytes) (place : ℕ) → IsByName name_of items → IsBinarySearchResult (compared name) items (Err place) → named name_of items name ≡ None
  absent_at items name place ordered searched = either (named name_of items name) refl
    where
      split : IsPartitionPoint (λ item. compared name item ≡ Less) (λ item. compared name item ≡ Greater) items place
      split = searched (rises items name ordered)

      apart : (x : A) → Contains items x → bytes_eq (name_of x) name ≡ true → ⊥
      apart x (k, within, at) has = elim (cases_lt k place) [
        | inl before ↦ both_ways _ (differ_below (name_of x) name (subst (λ y. compared name y ≡ Less) at (split.0 k x (omega arith) before))) has
        | inr behind ↦ both_ways _ (above_differs (name_of x) name (subst (λ y. compared name y ≡ Greater) at (split.1 k x behind within))) has
      ]

      either : (o : Option A) → named name_of items name ≡ o → o ≡ None
      either None is = refl
      either (Some x) is = let found = found_is_in name_of items name x is in absurd (apart x found.1 found.0)

-- a name that two neighbours have
twice_at : (names : List Bytes) (name : Bytes) (place : ℕ) (d : Bytes) → place + 1 < length names → bytes_eq name (get_or names place d) ≡ true → bytes_eq name (get_or names (place + 1) d) ≡ true → stands_twice names name ≡ true
twice_at names name place d within first second =
    let count : Bytes → ℕ = λ n. cond (bytes_eq name n) 1 0 in
    let at_first : count (get_or names place d) ≡ 1 = rw first in
    let at_second : count (get_or names (place + 1) d) ≡ 1 = rw second in
    let from_first = sum_by-drop_more count names place d (omega arith) in
    let from_second = sum_by-drop_more count names (place + 1) d within in
    let whole = sum_by-take-drop count names place in
    lt-ltb 1 (count_by (bytes_eq name) names) (omega arith)

-- names that differ, of which the one is not above the other
pub less_by : (a b : Bytes) → bytes_eq a b ≡ false → is_lt (slice_cmp nat_cmp b a) ≡ false → slice_cmp nat_cmp a b ≡ Less
less_by a b differ not_below = either (slice_cmp nat_cmp a b) refl
  where
    either : (o : Ordering) → slice_cmp nat_cmp a b ≡ o → o ≡ Less
    either Less is = refl
    either Equal is = absurd (both_ways _ differ (lists_ties nat_cmp unsigned_ties a b ∙ ap is_eq is))
    either Greater is = absurd (both_ways _ not_below (ap is_lt (nat_list_cmp_total.antisymm b a ∙ ap ordering_reverse is)))

module _ {A : Type 0} (name_of : A → Bytes) where
  -- neighbours of one name
  pub neighbours_repeat : (items : List A) (place : ℕ) (x y : A) → 0 < place → place < length items → x ≡ get_or items (place - 1) x → y ≡ get_or items place y → bytes_eq (name_of x) (name_of y) ≡ true → stands_twice (map name_of items) (name_of y) ≡ true
  neighbours_repeat items place x y behind within at_first at_second same =
      let names = map name_of items in
      let next : place ≡ (place - 1) + 1 = omega arith in
      let inside : place < length names = rw (length-map items name_of) within in
      let first = get_or-map name_of items (place - 1) x [] (omega arith) ∙ ap name_of (sym at_first) in
      let second = get_or-map name_of items place y [] within ∙ ap name_of (sym at_second) in
      twice_at names (name_of y) (place - 1) [] (subst (λ k. k < length names) next inside) (rw first (eq_either_way (name_of y) (name_of x) ∙ same))
      (subst (λ k. bytes_eq (name_of y) (get_or names k []) ≡ true) next (rw second (eq_itself (name_of y))))

  -- items that were sorted by their names and of which no neighbours have one name
  pub in_order : (items : List A) → IsSortedBy (λ a b. is_lt (slice_cmp nat_cmp (name_of a) (name_of b))) items → AllAdjacentBelow (λ x y. bytes_eq (name_of x) (name_of y) ≡ false) items (length items) → IsByName name_of items
  unfolding IsStrictlySortedBy
  in_order [] sorted differ = tt
  in_order (first ∷ items) sorted differ =
      let whole = first ∷ items in
      sorted_from_all_adjacent nat_list_cmp_total (map name_of whole) (name_of first) (λ k within.
      let inside : k + 1 < length whole = rw (← length-map whole name_of) within in
      rw (get_or-map-default name_of whole k first, get_or-map-default name_of whole (k + 1) first) (less_by (name_of (get_or whole k first)) (name_of (get_or whole (k + 1) first)) (differ k first inside) (sorted k first (omega arith) inside)))

  between_in_order : (items : List A) (place : ℕ) (item : A) → IsByName name_of items → place ≤ length items
      → AllWithin (λ other. compared name_of (name_of item) other ≡ Less) items 0 place → AllWithin (λ other. compared name_of (name_of item) other ≡ Greater) items place (length items) → IsByName name_of (insert items place item)
  unfolding IsStrictlySortedBy
  between_in_order items zero item ordered inside below above =
      let Later : Bytes → Type 0 = λ name. slice_cmp nat_cmp (name_of item) name ≡ Less in
      let later : All (λ other. Later (name_of other)) items =
      λ k d within. nat_list_cmp_total.antisymm (name_of item) (name_of (get_or items k d)) ∙ ap ordering_reverse (above k d (omega arith) within) in
      (recursion_from_All Later (map name_of items) (All-map Later name_of items later), ordered)
  between_in_order [] (suc place) item ordered inside below above = absurd (omega arith)
  between_in_order (first ∷ items) (suc place) item ordered inside below above =
      let Later : Bytes → Type 0 = λ name. slice_cmp nat_cmp (name_of first) name ≡ Less in
      let LaterItem : A → Type 0 = λ other. Later (name_of other) in
      let later : All LaterItem items = λ k d within. below_later name_of (first ∷ items) 0 (suc k) d ordered (omega arith) (omega arith) in
      let both = All-append LaterItem (take place items) (item ∷ drop place items) (All-take LaterItem place items later)
      (All-cons LaterItem item (drop place items) (below 0 first (omega arith) (omega arith)) (All-drop LaterItem place items later)) in (
        recursion_from_All Later (map name_of (insert items place item)) (All-map Later name_of (insert items place item) both),
        between_in_order items place item ordered.1 (omega arith) (λ k d low high. below (suc k) d (omega arith) (omega arith)) (λ k d low high. above (suc k) d (omega arith) (omega arith)),
      )

  module _ (items : List A) (place : ℕ) (item : A) (ordered : IsByName name_of items) where
    -- an item in the stead of that of its name
    pub replaced_in_order : place < length items → HoldsAt (λ other. compared name_of (name_of item) other ≡ Equal) items place → IsByName name_of (set items place item)
    replaced_in_order within equal =
        let same = same_in_order (name_of (get_or items place item)) (name_of item) (equal item) in
        subst (IsStrictlySortedBy (slice_cmp nat_cmp)) (sym (map-set_same name_of items place item item (sym same))) ordered

    pub replaced_named : place < length items → HoldsAt (λ other. compared name_of (name_of item) other ≡ Equal) items place → (name : Bytes)
        → named name_of (set items place item) name ≡ (if bytes_eq (name_of item) name then Some item else named name_of items name)
    replaced_named within equal name = either (bytes_eq (name_of item) name) refl
      where
        same : name_of (get_or items place item) ≡ name_of item
        same = same_in_order (name_of (get_or items place item)) (name_of item) (equal item)

        stands : Contains (set items place item) item
        stands = (place, rw (length-set items place item) within, get_or-set_same items place item item within)

        either : (b : Bool) → bytes_eq (name_of item) name ≡ b → named name_of (set items place item) name ≡ (if b then Some item else named name_of items name)
        either true is =
            subst (λ n. named name_of (set items place item) n ≡ Some item) (same_bytes (name_of item) name is)
            (in_is_found name_of (set items place item) item (replaced_in_order within equal) stands)
        either false is = find_past (is_named name_of name) items place item item (subst (λ n. bytes_eq n name ≡ false) (sym same) is) is

    -- an item between those of names below its own and those of names above
    module _ (inside : place ≤ length items) (searched : IsBinarySearchResult (compared name_of (name_of item)) items (Err place)) where
      pub inserted_in_order : IsByName name_of (insert items place item)
      inserted_in_order =
          let split = searched (rises name_of items (name_of item) ordered) in between_in_order items place item ordered inside split.0 split.1

      pub inserted_named : (name : Bytes) → named name_of (insert items place item) name ≡ (if bytes_eq (name_of item) name then Some item else named name_of items name)
      inserted_named name = either (bytes_eq (name_of item) name) refl
        where
          stands : Contains (insert items place item) item
          stands = (place, omega (arith, length-insert items place item inside), get_or-insert_at items place item item inside)

          either : (b : Bool) → bytes_eq (name_of item) name ≡ b → named name_of (insert items place item) name ≡ (if b then Some item else named name_of items name)
          either true is =
              subst (λ n. named name_of (insert items place item) n ≡ Some item) (same_bytes (name_of item) name is)
              (in_is_found name_of (insert items place item) item inserted_in_order stands)
          either false is =
              let test = is_named name_of name in
              find-append test (take place items) (item ∷ drop place items) ∙ (rw is (sym (find-append test (take place items) (drop place items)) ∙ ap (find test) (take-append-drop place items)))

-- what `put` leaves: the items of a map, as its fields hold them, with an item in the stead of that of its name, or at its place
module _ {A : Type 0} (name_of : A → Bytes) (held items : List A) (held_is : held ≡ items) (name : Bytes) (item : A) (name_is : name ≡ name_of item) (place : ℕ) (ordered : IsByName name_of held) where
  abbrev Put : List A → Type 0
  Put new = IsByName name_of new × ((other : Bytes) → named name_of new other ≡ (if bytes_eq (name_of item) other then Some item else named name_of items other))

  pub put_over : place < length items → HoldsAt (λ other. compared name_of name other ≡ Equal) items place → Put (set held place item)
  put_over within equal =
      let in_items = subst (IsByName name_of) held_is ordered in
      let equal_names = subst (λ n. HoldsAt (λ other. compared name_of n other ≡ Equal) items place) name_is equal in
      subst (λ xs. Put (set xs place item)) (sym held_is)
      (replaced_in_order name_of items place item in_items within equal_names, replaced_named name_of items place item in_items within equal_names)

  pub put_between : (new : List A) → new ≡ insert held place item → place ≤ length items → IsBinarySearchResult (compared name_of name) items (Err place) → Put new
  put_between new is inside searched =
      let in_items = subst (IsByName name_of) held_is ordered in
      let at_name = subst (λ n. IsBinarySearchResult (compared name_of n) items (Err place)) name_is searched in
      subst Put (sym (is ∙ ap (λ xs. insert xs place item) held_is))
      (inserted_in_order name_of items place item in_items inside at_name, inserted_named name_of items place item in_items inside at_name)

  -- where a search did not find the item's name, no item has it
  pub new_name : IsBinarySearchResult (compared name_of name) items (Err place) → named name_of items (name_of item) ≡ None
  new_name searched = absent_at name_of items (name_of item) place (subst (IsByName name_of) held_is ordered) (subst (λ n. IsBinarySearchResult (compared name_of n) items (Err place)) name_is searched)

-- what `from_items` tells of items, which it sorts and then shows as a slice
module _ {A : Type 0} (name_of : A → Bytes) (items held sorted shown : List A) (held_is : held ≡ items) (moved : IsPermutation held sorted) (shown_is : shown ≡ sorted) where
  as_often : (name : Bytes) → stands_twice (map name_of shown) name ≡ stands_twice (map name_of items) name
  as_often name =
      subst (λ xs. stands_twice (map name_of xs) name ≡ stands_twice (map name_of items) name) (sym shown_is)
      (stands_twice-moved name_of items sorted name (subst (λ xs. IsPermutation xs sorted) held_is moved))

  pub repeats : (name told : Bytes) → stands_twice (map name_of shown) name ≡ true → told ≡ name → stands_twice (map name_of items) told ≡ true
  repeats name told twice told_is = rw told_is (sym (as_often name) ∙ twice)

  pub sorted_in_order : IsSortedBy (λ a b. is_lt (slice_cmp nat_cmp (name_of a) (name_of b))) sorted → AllAdjacentBelow (λ x y. bytes_eq (name_of x) (name_of y) ≡ false) shown (length shown) → IsByName name_of shown
  sorted_in_order ascending differ = in_order name_of shown (subst (IsSortedBy (λ a b. is_lt (slice_cmp nat_cmp (name_of a) (name_of b)))) (sym shown_is) ascending) differ

  pub none_repeats : IsByName name_of shown → (name : Bytes) → stands_twice (map name_of items) name ≡ false
  none_repeats ordered name = sym (as_often name) ∙ stands_once name_of shown ordered name
