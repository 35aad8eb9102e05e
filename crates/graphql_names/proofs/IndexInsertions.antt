-- One more item, behind the others: its place goes behind those of its name.
use Rattle.std.proofs.Common.{◌≡◌, zero, suc, ◌+◌, ◌-◌, ◌≤◌, ◌<◌, ℕ, true, false, List, [], ◌∷◌, ◌++◌, length, get_or, Ordering, Less, Equal, Greater, inl, inr, is_lt, nat_cmp, insert, IsPermutation, sym, refl, ap, ap₂, ◌∙◌, subst, length-append, arith}
use Rattle.std.specs.Cmp.{nat_cmp_is}
use Rattle.std.specs.Cmp.Lexicographic.{slice_cmp}
use Rattle.std.specs.List.{range_with_len}
use Rattle.std.specs.List.Sorted.{IsPartitionPoint, IsSorted}
use Rattle.std.specs.Ordering.{is_le, ordering_then, ordering_reverse}
use Rattle.std.proofs.lemmas.Bool.{cases_lt}
use Rattle.std.proofs.lemmas.Cmp.{nat_list_cmp_total}
use Rattle.std.proofs.lemmas.List.Edits.{length-insert, get_or-insert_below, get_or-insert_at, get_or-insert_above}
use Rattle.std.proofs.lemmas.List.Sorted.{IsPermutation-insert, IsPermutation-push_more}
use Rattle.graphql_names.specs.Indexes.{name_at, place_cmp, IsIndex}
use Rattle.graphql_names.specs.Names.{Bytes}
use Rattle.graphql_names.proofs.Indexes.{inside, places_more}

-- a name that is not above another, at a place before that
reversed_not_less : (o : Ordering) (later earlier : ℕ) → earlier < later → is_le o ≡ true → is_lt (ordering_then (ordering_reverse o) (nat_cmp later earlier)) ≡ false
reversed_not_less Less later earlier before not_above = refl
reversed_not_less Equal later earlier before not_above = ap is_lt (sym (nat_cmp_is later earlier Greater before))
reversed_not_less Greater later earlier before not_above = absurd (cc)

-- a name that is above another
above_not_less : (first second : Ordering) → is_le first ≡ false → is_lt (ordering_then first second) ≡ false
above_not_less Less second above = absurd (cc)
above_not_less Equal second above = absurd (cc)
above_not_less Greater second above = refl

module _ {A : Type 0} (name_of : A → Bytes) where
  kept : (items : List A) (item : A) (place : ℕ) → place < length items → name_at name_of (items ++ item ∷ []) place ≡ name_at name_of items place
  kept [] item place within = absurd (omega arith)
  kept (x ∷ items) item zero within = refl
  kept (x ∷ items) item (suc place) within = kept items item place (omega arith)

  at_end : (items : List A) (item : A) → name_at name_of (items ++ item ∷ []) (length items) ≡ name_of item
  at_end [] item = refl
  at_end (x ∷ items) item = at_end items item

  module _ (items : List A) (places : List ℕ) (index : IsIndex name_of items places) (item : A) (k : ℕ) (bound : k ≤ length places)
      (split : IsPartitionPoint (λ place. is_le (slice_cmp nat_cmp (name_at name_of items place) (name_of item)) ≡ true) (λ place. is_le (slice_cmp nat_cmp (name_at name_of items place) (name_of item)) ≡ false) places k) where
    abbrev last : ℕ
    last = length items

    abbrev more : List A
    more = items ++ item ∷ []

    abbrev new : List ℕ
    new = insert places k last

    abbrev IsNotLess : ℕ → ℕ → Type 0
    IsNotLess place other = is_lt (place_cmp name_of more place other) ≡ false

    moved : IsPermutation (range_with_len 0 (length more)) new
    moved =
        let longer : length more ≡ suc last = length-append items (item ∷ []) ∙ (omega arith) in
        let from_zero : 0 + last ≡ last = omega arith in
        let ends = ap (range_with_len 0) longer ∙ places_more 0 last ∙ ap (λ place. range_with_len 0 last ++ place ∷ []) from_zero in
        subst (λ ps. IsPermutation ps new) (sym ends) (IsPermutation-push_more (range_with_len 0 last) places new last index.0 (IsPermutation-insert places k last))

    -- of the places that were there
    still : (place other : ℕ) → place < last → other < last → is_lt (place_cmp name_of items place other) ≡ false → IsNotLess place other
    still place other here there not_less =
        ap₂ (λ a b. is_lt (ordering_then (slice_cmp nat_cmp a b) (nat_cmp place other))) (kept items item place here) (kept items item other there) ∙ not_less

    -- of the new place and one in front of it
    behind : (other : ℕ) → other < last → is_le (slice_cmp nat_cmp (name_at name_of items other) (name_of item)) ≡ true → IsNotLess last other
    behind other there not_above =
        ap₂ (λ a b. is_lt (ordering_then (slice_cmp nat_cmp a b) (nat_cmp last other))) (at_end items item) (kept items item other there)
        ∙ ap (λ o. is_lt (ordering_then o (nat_cmp last other))) (nat_list_cmp_total.antisymm (name_of item) (name_at name_of items other))
        ∙ reversed_not_less _ last other there not_above

    -- of a place behind the new one
    before : (place : ℕ) → place < last → is_le (slice_cmp nat_cmp (name_at name_of items place) (name_of item)) ≡ false → IsNotLess place last
    before place here above =
        ap₂ (λ a b. is_lt (ordering_then (slice_cmp nat_cmp a b) (nat_cmp place last))) (kept items item place here) (at_end items item) ∙ above_not_less _ _ above

    at_below : (j d : ℕ) → j < k → get_or new j d ≡ get_or places j d
    at_below j d lower = get_or-insert_below places k last d j lower bound

    at_new : (j d : ℕ) → j ≡ k → get_or new j d ≡ last
    at_new j d is = ap (λ i. get_or new i d) is ∙ get_or-insert_at places k last d bound

    at_above : (j d : ℕ) → k ≤ j → get_or new (j + 1) d ≡ get_or places j d
    at_above j d higher = get_or-insert_above places k last d j higher bound

    within_items : (j d : ℕ) → j < length places → get_or places j d < last
    within_items j d below = inside name_of items places index j d below

    sorted : IsSorted (place_cmp name_of more) new
    sorted j d low below =
        let length_is = length-insert places k last bound in
        let in_places : j < length places = omega (arith, length_is) in
        elim (cases_lt (j + 1) k) [
          | inl front ↦
              let next : j + 1 < length places = omega arith in
              ap₂ (λ p q. is_lt (place_cmp name_of more p q)) (at_below (j + 1) d front) (at_below j d (omega arith))
              ∙ still (get_or places (j + 1) d) (get_or places j d) (within_items (j + 1) d next) (within_items j d in_places) (index.1 j d low next)
          | inr not_front ↦ elim (cases_lt j k) [
            | inl lower ↦
                ap₂ (λ p q. is_lt (place_cmp name_of more p q)) (at_new (j + 1) d (omega arith)) (at_below j d lower)
                ∙ behind (get_or places j d) (within_items j d in_places) (split.0 j d low lower)
            | inr higher ↦ elim (cases_lt k j) [
              | inl beyond ↦
                  let back : (j - 1) + 1 ≡ j = omega arith in
                  let earlier : get_or new j d ≡ get_or places (j - 1) d = ap (λ i. get_or new i d) (sym back) ∙ at_above (j - 1) d (omega arith) in
                  let rises = subst (λ i. is_lt (place_cmp name_of items (get_or places i d) (get_or places (j - 1) d)) ≡ false) back (index.1 (j - 1) d (omega arith) (omega arith)) in
                  ap₂ (λ p q. is_lt (place_cmp name_of more p q)) (at_above j d higher) earlier
                  ∙ still (get_or places j d) (get_or places (j - 1) d) (within_items j d in_places) (within_items (j - 1) d (omega arith)) rises
              | inr not_beyond ↦
                  ap₂ (λ p q. is_lt (place_cmp name_of more p q)) (at_above j d higher) (at_new j d (omega arith))
                  ∙ before (get_or places j d) (within_items j d in_places) (split.1 j d higher in_places)
            ]
          ]
        ]

    pub inserted : IsIndex name_of more new
    inserted = (moved, sorted)

-- what `push` leaves: the fields of the items, with the place put where the search, which saw them as slices, said
module _ {A : Type 0} (name_of : A → Bytes) (held shown : List A) (shown_is : shown ≡ held) (by_name places : List ℕ) (places_are : places ≡ by_name) (index : IsIndex name_of held by_name)
    (item : A) (name : Bytes) (name_is : name ≡ name_of item) (k : ℕ) (bound : k ≤ length places)
    (split : IsIndex name_of shown places → IsPartitionPoint (λ place. is_le (slice_cmp nat_cmp (name_at name_of shown place) name) ≡ true) (λ place. is_le (slice_cmp nat_cmp (name_at name_of shown place) name) ≡ false) places k) where
  index_shown : IsIndex name_of shown places
  index_shown = subst (λ xs. IsIndex name_of xs places) (sym shown_is) (subst (IsIndex name_of held) (sym places_are) index)

  abbrev SplitBy : Bytes → Type 0
  SplitBy n =
      IsPartitionPoint (λ place. is_le (slice_cmp nat_cmp (name_at name_of shown place) n) ≡ true) (λ place. is_le (slice_cmp nat_cmp (name_at name_of shown place) n) ≡ false) places k

  pub pushed : (count : ℕ) (more : List A) (new : List ℕ) → count ≡ length held → more ≡ held ++ item ∷ [] → new ≡ insert by_name k count → IsIndex name_of more new
  pushed count more new count_is more_is new_is =
      let shown_more : shown ++ item ∷ [] ≡ more = ap (λ xs. xs ++ item ∷ []) shown_is ∙ sym more_is in
      let counted : length shown ≡ count = ap length shown_is ∙ sym count_is in
      let put : insert places k (length shown) ≡ new = ap₂ (λ ps n. insert ps k n) places_are counted ∙ sym new_is in
      subst (IsIndex name_of more) put (subst (λ xs. IsIndex name_of xs (insert places k (length shown))) shown_more (inserted name_of shown places index_shown item k bound (subst SplitBy name_is (split index_shown))))
