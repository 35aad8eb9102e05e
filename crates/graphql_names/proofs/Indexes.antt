-- Items as they were declared, and the places by which they are found by their names.
use Rattle.std.proofs.Common.{◌≡◌, zero, suc, ◌+◌, ◌≤◌, ◌<◌, ℕ, Bool, true, false, List, [], ◌∷◌, ◌++◌, length, get_or, slice_get, Some, None, Ordering, Less, Equal, Greater, inl, inr, is_lt, is_eq, nat_cmp, All, Contains, IsSortedBy, sym, refl, ap, ap₂, ◌∙◌, subst, zero-add, arith}
use Rattle.std.specs.Cmp.{IsTotalOrder, IsStrictWeakOrder, nat_cmp_is, on_total, then_total, nat_cmp_total, unsigned_ties}
use Rattle.std.specs.Cmp.Lexicographic.{slice_cmp, lists_ties}
use Rattle.std.specs.List.{range_with_len}
use Rattle.std.specs.List.Sorted.{IsPartitionedBy, IsPartitionPoint}
use Rattle.std.specs.Option.{option_to_list}
use Rattle.std.specs.Ordering.{is_le, ordering_index, ordering_then}
use Rattle.std.specs.Str.{bytes_eq}
use Rattle.std.proofs.lemmas.Bool.{cases_lt, both_ways}
use Rattle.std.proofs.lemmas.Cmp.{nat_list_cmp_total}
use Rattle.std.proofs.lemmas.List.FromFn.{length-range_with_len, get_or-range_with_len}
use Rattle.std.proofs.lemmas.List.Sorted.{ranks_by, sorted_far, searchable_from_sorted, All-permutation, Contains-permutation}
use Rattle.std.proofs.lemmas.Option.{slice_get_cases, slice_get_within, get_or_from_slice_get}
use Rattle.graphql_names.specs.Indexes.{name_at, place_cmp, IsIndex}
use Rattle.graphql_names.specs.Names.{Bytes, named}
use Rattle.graphql_names.proofs.NameLemmas.{same_bytes, eq_itself, differ_below}
use Rattle.graphql_names.proofs.NameMaps.{less_by}

-- what a comparison tells, where a second one decides ties
first_not_less : (first second : Ordering) → is_lt (ordering_then first second) ≡ false → is_lt first ≡ false
first_not_less Less second not_less = not_less
first_not_less Equal second not_less = refl
first_not_less Greater second not_less = refl

less_below : (lower higher : Ordering) → ordering_index lower ≤ ordering_index higher → is_lt higher ≡ true → is_lt lower ≡ true
less_below Less higher rises less = refl
less_below Equal Less rises less = absurd (omega arith)
less_below Equal Equal rises less = less
less_below Equal Greater rises less = less
less_below Greater Less rises less = absurd (omega arith)
less_below Greater Equal rises less = less
less_below Greater Greater rises less = less

le_below : (lower higher : Ordering) → ordering_index lower ≤ ordering_index higher → is_le higher ≡ true → is_le lower ≡ true
le_below Less higher rises not_above = refl
le_below Equal higher rises not_above = refl
le_below Greater Less rises not_above = absurd (omega arith)
le_below Greater Equal rises not_above = absurd (omega arith)
le_below Greater Greater rises not_above = not_above

is_less : (o : Ordering) → is_lt o ≡ true → o ≡ Less
is_less Less less = refl
is_less Equal less = absurd (cc)
is_less Greater less = absurd (cc)

-- of places of one name the one in front comes first
earlier_is_less : (a b : Bytes) (earlier later : ℕ) → bytes_eq a b ≡ true → earlier < later → is_lt (ordering_then (slice_cmp nat_cmp a b) (nat_cmp earlier later)) ≡ true
earlier_is_less a b earlier later same lower =
    let tie = is_equal _ (sym (lists_ties nat_cmp unsigned_ties a b) ∙ same) in rw (tie, ← nat_cmp_is earlier later Less lower) refl
  where
    is_equal : (o : Ordering) → is_eq o ≡ true → o ≡ Equal
    is_equal Less equal = absurd (cc)
    is_equal Equal equal = refl
    is_equal Greater equal = absurd (cc)

lesser_differs : (a b : Bytes) → is_lt (slice_cmp nat_cmp a b) ≡ true → bytes_eq a b ≡ false
lesser_differs a b less = differ_below a b (is_less _ less)

module _ {A : Type 0} (name_of : A → Bytes) where
  -- where no item has the name
  none_at : (items : List A) (name : Bytes) → ((place : ℕ) → place < length items → bytes_eq (name_at name_of items place) name ≡ false) → named name_of items name ≡ None
  none_at [] name differ = refl
  none_at (x ∷ items) name differ = rw (differ 0 (omega arith)) (none_at items name (λ place within. differ (suc place) (omega arith)))

  -- where an item has it, and none before that
  first_at : (items : List A) (name : Bytes) (place : ℕ) → place < length items → bytes_eq (name_at name_of items place) name ≡ true
      → ((other : ℕ) → other < place → bytes_eq (name_at name_of items other) name ≡ false) → named name_of items name ≡ slice_get items place
  first_at [] name place within has before = absurd (omega arith)
  first_at (x ∷ items) name zero within has before = rw has refl
  first_at (x ∷ items) name (suc place) within has before =
      rw (before 0 (omega arith)) (first_at items name place (omega arith) has (λ other lower. before (suc other) (omega arith)))

  -- the item at a place, if it has the name
  has_at : (items : List A) (name : Bytes) (place : ℕ) → place < length items → bytes_eq (name_at name_of items place) name ≡ true → named name_of (option_to_list (slice_get items place)) name ≡ slice_get items place
  has_at [] name place within has = absurd (omega arith)
  has_at (x ∷ items) name zero within has = rw has refl
  has_at (x ∷ items) name (suc place) within has = has_at items name place (omega arith) has

  differs_at : (items : List A) (name : Bytes) (place : ℕ) → place < length items → bytes_eq (name_at name_of items place) name ≡ false → named name_of (option_to_list (slice_get items place)) name ≡ None
  differs_at [] name place within differs = absurd (omega arith)
  differs_at (x ∷ items) name zero within differs = rw differs refl
  differs_at (x ∷ items) name (suc place) within differs = differs_at items name place (omega arith) differs

  module _ (items : List A) where
    abbrev at : ℕ → Bytes
    at = name_at name_of items

    places_total : IsTotalOrder (place_cmp name_of items)
    places_total = then_total (on_total at nat_list_cmp_total) nat_cmp_total

    pub places_order : IsStrictWeakOrder (λ place other. is_lt (place_cmp name_of items place other))
    places_order = ranks_by places_total (λ place. place)

    module _ (places : List ℕ) (index : IsIndex name_of items places) where
      pub inside : All (λ place. place < length items) places
      inside =
          All-permutation (λ place. place < length items) (range_with_len 0 (length items)) places index.0
          (λ k d within. let low : k < length items = rw (← length-range_with_len 0 (length items)) within in
          rw (get_or-range_with_len 0 (length items) k d low, zero-add k) low)

      stands : (place : ℕ) → place < length items → Contains places place
      stands place within =
          Contains-permutation (range_with_len 0 (length items)) places place index.0
          (place, rw (length-range_with_len 0 (length items)) within, get_or-range_with_len 0 (length items) place place within ∙ zero-add place)

      names_rise : IsSortedBy (λ place other. is_lt (slice_cmp nat_cmp (at place) (at other))) places
      names_rise k d low within = first_not_less _ _ (index.1 k d low within)

      -- the places of names that are not above come before the others
      pub parted_behind : (name : Bytes) → IsPartitionedBy (λ place. is_le (slice_cmp nat_cmp (at place) name)) places
      parted_behind name i j d low within not_above =
          le_below _ _ (searchable_from_sorted nat_list_cmp_total at places name names_rise i j d low within) not_above

      -- the places of lesser names come before the others
      pub parted : (name : Bytes) → IsPartitionedBy (λ place. is_lt (slice_cmp nat_cmp (at place) name)) places
      parted name i j d low within less =
          less_below _ _ (searchable_from_sorted nat_list_cmp_total at places name names_rise i j d low within) less

      module _ (name : Bytes) (k : ℕ)
          (split : IsPartitionPoint (λ place. is_lt (slice_cmp nat_cmp (at place) name) ≡ true) (λ place. is_lt (slice_cmp nat_cmp (at place) name) ≡ false) places k) where
        before_differs : (other j : ℕ) → j < k → get_or places j other ≡ other → bytes_eq (at other) name ≡ false
        before_differs other j before is =
            lesser_differs (at other) name (subst (λ p. is_lt (slice_cmp nat_cmp (at p) name) ≡ true) is (split.0 j other (omega arith) before))

        -- behind the last place
        pub absent : slice_get places k ≡ None → named name_of items name ≡ None
        absent none = elim (slice_get_cases places k).1 [
          | inl (x, within, gives, is) ↦ absurd (none_or_some (sym none ∙ gives))
          | inr (past, gives) ↦ none_at items name (λ other within. let held = stands other within in before_differs other held.0 (omega (arith, held.1)) held.2)
        ]
          where
            none_or_some : {x : ℕ} → None ≡ Some x → ⊥
            none_or_some is = cc

        module _ (place : ℕ) (gives : slice_get places k ≡ Some place) where
          here : k < length places
          here = slice_get_within places k place gives

          is_here : (d : ℕ) → get_or places k d ≡ place
          is_here d = get_or_from_slice_get places k place d gives

          within_items : place < length items
          within_items = subst (λ p. p < length items) (is_here place) (inside k place here)

          -- a place further on does not come before this one
          not_before : (other j : ℕ) → k ≤ j → j < length places → get_or places j other ≡ other → is_lt (place_cmp name_of items other place) ≡ false
          not_before other j behind within is =
              let far = sorted_far _ places_order places index.1 k j other behind within in
              subst (λ p. is_lt (place_cmp name_of items other p) ≡ false) (is_here other) (subst (λ p. is_lt (place_cmp name_of items p (get_or places k other)) ≡ false) is far)

          -- the name stands here, so not at a place before this one
          earlier_differs : bytes_eq (at place) name ≡ true → (other : ℕ) → other < place → bytes_eq (at other) name ≡ false
          earlier_differs has other lower = either (bytes_eq (at other) name) refl
            where
              one_name : bytes_eq (at other) name ≡ true → bytes_eq (at place) name ≡ true → bytes_eq (at other) (at place) ≡ true
              one_name one two = ap₂ bytes_eq (same_bytes (at other) name one) (same_bytes (at place) name two) ∙ eq_itself name

              either : (b : Bool) → bytes_eq (at other) name ≡ b → b ≡ false
              either false differs = refl
              either true same =
                  let held = stands other (omega (arith, within_items)) in
                  elim (cases_lt held.0 k) [
                    | inl before ↦ sym same ∙ before_differs other held.0 before held.2
                    | inr behind ↦ absurd (both_ways _ (not_before other held.0 behind held.1 held.2) (earlier_is_less (at other) (at place) other place (one_name same has) lower))
                  ]

          -- it does not, so nowhere
          all_differ : bytes_eq (at place) name ≡ false → (other : ℕ) → other < length items → bytes_eq (at other) name ≡ false
          all_differ differs other within = either (bytes_eq (at other) name) refl
            where
              not_above : (j : ℕ) → k ≤ j → j < length places → get_or places j other ≡ other → at other ≡ name → is_lt (slice_cmp nat_cmp name (at (get_or places k other))) ≡ false
              not_above j behind below is name_is =
                  let far = first_not_less _ _ (not_before other j behind below is) in
                  subst (λ n. is_lt (slice_cmp nat_cmp n (at (get_or places k other))) ≡ false) name_is
                  (subst (λ p. is_lt (slice_cmp nat_cmp (at other) (at p)) ≡ false) (sym (is_here other)) far)

              less : (j : ℕ) → k ≤ j → j < length places → get_or places j other ≡ other → at other ≡ name → is_lt (slice_cmp nat_cmp (at (get_or places k other)) name) ≡ true
              less j behind below is name_is =
                  ap is_lt (less_by (at (get_or places k other)) name (ap (λ p. bytes_eq (at p) name) (is_here other) ∙ differs) (not_above j behind below is name_is))

              either : (b : Bool) → bytes_eq (at other) name ≡ b → b ≡ false
              either false apart = refl
              either true same =
                  let held = stands other within in
                  elim (cases_lt held.0 k) [
                    | inl before ↦ sym same ∙ before_differs other held.0 before held.2
                    | inr behind ↦ absurd (both_ways (is_lt (slice_cmp nat_cmp (at (get_or places k other)) name)) (split.1 k other (omega arith) here) (less held.0 behind held.1 held.2 (same_bytes (at other) name same)))
                  ]

          pub present : named name_of (option_to_list (slice_get items place)) name ≡ named name_of items name
          present = either (bytes_eq (at place) name) refl
            where
              either : (b : Bool) → bytes_eq (at place) name ≡ b → named name_of (option_to_list (slice_get items place)) name ≡ named name_of items name
              either true has = has_at items name place within_items has ∙ sym (first_at items name place within_items has (earlier_differs has))
              either false differs = differs_at items name place within_items differs ∙ sym (none_at items name (all_differ differs))

-- the places from one on, with one more
pub places_more : (first count : ℕ) → range_with_len first (suc count) ≡ range_with_len first count ++ (first + count) ∷ []
places_more first zero = ap (λ place. place ∷ []) (omega arith)
places_more first (suc count) =
    let last : first + 1 + count ≡ first + suc count = omega arith in
    ap (λ places. first ∷ places) (places_more (first + 1) count ∙ ap (λ place. range_with_len (first + 1) count ++ place ∷ []) last)

-- what `get` looks at: the fields of the items, shown as slices
module _ {A : Type 0} (name_of : A → Bytes) (items held shown : List A) (held_is : held ≡ items) (shown_is : shown ≡ held) (by_name places : List ℕ) (places_are : places ≡ by_name)
    (index : IsIndex name_of held by_name) (name : Bytes) (k : ℕ)
    (split : IsIndex name_of shown places → IsPartitionPoint (λ place. is_lt (slice_cmp nat_cmp (name_at name_of shown place) name) ≡ true) (λ place. is_lt (slice_cmp nat_cmp (name_at name_of shown place) name) ≡ false) places k) where
  index_shown : IsIndex name_of shown places
  index_shown = subst (λ xs. IsIndex name_of xs places) (sym shown_is) (subst (IsIndex name_of held) (sym places_are) index)

  named_shown : named name_of shown name ≡ named name_of items name
  named_shown = ap (λ xs. named name_of xs name) (shown_is ∙ held_is)

  pub found_in : (place : ℕ) → Some place ≡ slice_get by_name k → named name_of (option_to_list (slice_get shown place)) name ≡ named name_of items name
  found_in place gives = present name_of shown places index_shown name k (split index_shown) place (ap (λ ps. slice_get ps k) places_are ∙ sym gives) ∙ named_shown

  pub absent_in : None ≡ slice_get by_name k → None ≡ named name_of items name
  absent_in none = sym (absent name_of shown places index_shown name k (split index_shown) (ap (λ ps. slice_get ps k) places_are ∙ sym none)) ∙ named_shown
