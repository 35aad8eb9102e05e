-- Marks of fragments, name by name.
use Rattle.std.proofs.Common.{◌≡◌, ◌⊎◌, inl, inr, ℕ, ◌+◌, ◌<◌, ◌≤◌, Bool, true, false, not, cond, ◌||◌, List, [], ◌∷◌, ◌++◌, Option, Some, None, Result, Ok, Err, OnOk, length, get_or, set, take, refl, sym, ap, subst, ◌∙◌, append-nil, append_assoc, arith}
use Rattle.std.specs.List.{Contains}
use Rattle.std.specs.Str.{bytes_eq}
use Rattle.std.proofs.Math.Bool.{or-false}
use Rattle.std.proofs.lemmas.Bool.{cases_lt, cases_order, cases_Bool, both_ways, or_left, or_right, or_cases, or_from, false≢true}
use Rattle.std.proofs.lemmas.List.{ext_get_or, get_or-map, get_or-take, get_or-set_same, get_or-set_other, length-map, length-set, length-append, length-take-le, map-append, take_all, take_more}
use Rattle.std.proofs.lemmas.List.Elements.{Contains-append_left, Contains-push, Contains-push_cases}
use Rattle.std.proofs.lemmas.List.Folds.{list_any-append}
use Rattle.std.proofs.lemmas.List.Sums.{sum_by-set}
use Rattle.graphql_names.specs.Names.{Bytes, is_one_of}
use Rattle.graphql_names.proofs.NameLemmas.{same_bytes}
use Rattle.graphql_rules_document.specs.Named.{last_place, earlier_place}
use Rattle.graphql_rules_document.specs.declared.scopes.Spread.{Spread}
use Rattle.graphql_rules_document.specs.Searches.{Marked, Marks, marks_of, name_at, spread_names, unmarked}
use Rattle.graphql_rules_document.proofs.NamedLemmas.{LastAt, last_place-None, last_place-Some, earlier_at}

-- the name stands here
abbrev named_at : List Bytes → Bytes → ℕ → Bool
named_at names name place = bytes_eq (name_at names place) name

or_one : (found : List Bytes) (name n : Bytes) → is_one_of (found ++ name ∷ []) n ≡ (is_one_of found n || bytes_eq n name)
or_one found name n = list_any-append (bytes_eq n) found (name ∷ []) ∙ ap (λ b. is_one_of found n || b) (or-false (bytes_eq n name))

or_more : (found more : List Bytes) (n : Bytes) → is_one_of (found ++ more) n ≡ (is_one_of found n || is_one_of more n)
or_more found more n = list_any-append (bytes_eq n) found more

pub mark_at : (names found : List Bytes) (place : ℕ) → place < length names → get_or (marks_of names found) place false ≡ is_one_of found (name_at names place)
mark_at names found place within = get_or-map (is_one_of found) names place [] false within

-- marks that are right at each place are the marks
marks_by_place : (names found : List Bytes) (marks : List Bool) → length marks ≡ length names → ((j : ℕ) → j < length names → get_or marks j false ≡ is_one_of found (name_at names j)) → marks ≡ marks_of names found
marks_by_place names found marks long each =
    ext_get_or false marks (marks_of names found) (long ∙ sym (length-map names (is_one_of found)))
    (λ j within. let inside : j < length names = omega (arith, within, long) in each j inside ∙ sym (mark_at names found j inside))

-- ---- a chain of fragments of one name, from the last on

-- the fragments of the name from a place on are marked
pub record Chain (names : List Bytes) (name : Bytes) (old : List Bool) (before : List ℕ) (next : Option ℕ) (new : List Bool) (after : List ℕ) : Type 0 where
  pub below : ℕ
  pub within : below ≤ length names
  pub next_is : next ≡ last_place (take below names) name
  pub long : length new ≡ length names
  pub lower : (j : ℕ) → j < below → get_or new j false ≡ get_or old j false
  pub upper : (j : ℕ) → below ≤ j → j < length names → get_or new j false ≡ (get_or old j false || named_at names name j)
  pub stays : (j : ℕ) → Contains before j → Contains after j
  pub waits : (j : ℕ) → below ≤ j → j < length names → named_at names name j ≡ true → Contains after j
  pub only : (j : ℕ) → Contains after j → Contains before j ⊎ (named_at names name j ≡ true)
  pub left : unmarked new + length after ≤ unmarked old + length before

-- none of the name is marked before
abbrev pub Fresh : List Bytes → Bytes → List Bool → Type 0
Fresh names name old = (j : ℕ) → j < length names → named_at names name j ≡ true → get_or old j false ≡ false

pub chain_starts : (names : List Bytes) (name : Bytes) (old : List Bool) (before : List ℕ) (last : ℕ) → length old ≡ length names → last_place names name ≡ Some last → Chain names name old before (Some last) old before
chain_starts names name old before last long found = record {
  below = length names;
  within = omega arith;
  next_is = sym (ap (λ ns. last_place ns name) (take_all (length names) names (omega arith)) ∙ found);
  long = long;
  lower = λ j h. refl;
  upper = λ j h k. absurd (omega (arith, h, k));
  stays = λ j h. h;
  waits = λ j h k e. absurd (omega (arith, h, k));
  only = λ j h. inl h;
  left = omega arith;
}

one_less : (marks : List Bool) (place : ℕ) → place < length marks → get_or marks place false ≡ false → unmarked (set marks place true) + 1 ≡ unmarked marks
one_less marks place within was =
    let all = sum_by-set (λ b. cond (not b) 1 0) marks place true false within in
    let one = ap (λ b. unmarked (set marks place true) + cond (not b) 1 0) was in
    omega (arith, all, one)

module _ (names : List Bytes) (name : Bytes) (old : List Bool) (before : List ℕ) (place : ℕ) (new : List Bool) (after : List ℕ) (fresh : Fresh names name old) (c : Chain names name old before (Some place) new after) where
  abbrev at_place : LastAt (take c.below names) name place
  at_place = last_place-Some (take c.below names) name place (sym c.next_is)

  is_below : place < c.below
  is_below = omega (arith, (at_place).within, length-take-le c.below names c.within)

  inside : place < length names
  inside = omega (arith, is_below, c.within)

  named_here : named_at names name place ≡ true
  named_here = ap (λ n. bytes_eq n name) (sym (get_or-take c.below names place [] is_below)) ∙ (at_place).named

  between : (j : ℕ) → place < j → j < c.below → named_at names name j ≡ false
  between j above h =
      ap (λ n. bytes_eq n name) (sym (get_or-take c.below names j [] h)) ∙ (at_place).behind j (omega (arith, above)) (omega (arith, h, length-take-le c.below names c.within))

  pub chain_goes_on : Chain names name old before (earlier_place names place) (set new place true) (after ++ place ∷ [])
  chain_goes_on = record {
    below = place;
    within = omega (arith, inside);
    next_is = earlier_at names place inside ∙ ap (last_place (take place names)) (same_bytes (name_at names place) name named_here);
    long = length-set new place true ∙ c.long;
    lower = λ j h. get_or-set_other new place j true false (λ e. omega (arith, h, e)) ∙ c.lower j (omega (arith, h, is_below));
    upper = upper;
    stays = λ j h. Contains-append_left after (place ∷ []) j (c.stays j h);
    waits = waits;
    only = λ j h. elim (Contains-push_cases after place j h) [ inl e ↦ c.only j e | inr e ↦ inr (subst (λ k. named_at names name k ≡ true) e named_here) ];
    left = omega (arith, c.left, one_less new place (omega (arith, c.long, inside)) (c.lower place is_below ∙ fresh place inside named_here), length-append after (place ∷ []));
  }
    where
      upper : (j : ℕ) → place ≤ j → j < length names → get_or (set new place true) j false ≡ (get_or old j false || named_at names name j)
      upper j from within = elim (cases_order place j) [
        | inl e ↦ subst (λ k. get_or (set new place true) k false ≡ (get_or old k false || named_at names name k)) e
            (get_or-set_same new place true false (omega (arith, c.long, inside)) ∙ sym (or_right (get_or old place false) (named_at names name place) named_here))
        | inr o ↦ elim o [
          | inr under ↦ absurd (omega (arith, under, from))
          | inl above ↦ get_or-set_other new place j true false (λ e. omega (arith, above, e)) ∙ (elim (cases_lt j c.below) [
            | inl h ↦ c.lower j h ∙ sym (ap (λ b. get_or old j false || b) (between j above h) ∙ or-false (get_or old j false))
            | inr h ↦ c.upper j h within
          ])
        ]
      ]

      waits : (j : ℕ) → place ≤ j → j < length names → named_at names name j ≡ true → Contains (after ++ place ∷ []) j
      waits j from within here = elim (cases_order place j) [
        | inl e ↦ subst (Contains (after ++ place ∷ [])) e (Contains-push after place)
        | inr o ↦ elim o [
          | inr under ↦ absurd (omega (arith, under, from))
          | inl above ↦ elim (cases_lt j c.below) [
            | inl h ↦ absurd (both_ways (named_at names name j) (between j above h) here)
            | inr h ↦ Contains-append_left after (place ∷ []) j (c.waits j h within here)
          ]
        ]
      ]

-- the chain is over: those of the name are marked
pub chain_ends : (names found : List Bytes) (name : Bytes) (old : List Bool) (before : List ℕ) (new : List Bool) (after : List ℕ) → old ≡ marks_of names found → Chain names name old before None new after → Marked names found (name ∷ []) old before new after
chain_ends names found name old before new after was c = record {
  marks = marks_by_place names (found ++ name ∷ []) new c.long each;
  stays = c.stays;
  waits = λ j within here absent. waits j within (sym (or-false (named_at names name j)) ∙ here);
  only = λ j h. elim (c.only j h) [ inl e ↦ inl e | inr e ↦ inr (or-false (named_at names name j) ∙ e) ];
  left = c.left;
}
  where
    none : (j : ℕ) → j < c.below → named_at names name j ≡ false
    none j h =
        ap (λ n. bytes_eq n name) (sym (get_or-take c.below names j [] h))
        ∙ last_place-None (take c.below names) name (sym c.next_is) j (omega arith) (omega (arith, h, length-take-le c.below names c.within))

    now : (j : ℕ) → j < length names → get_or new j false ≡ (get_or old j false || named_at names name j)
    now j within = elim (cases_lt j c.below) [
      | inl h ↦ c.lower j h ∙ sym (ap (λ b. get_or old j false || b) (none j h) ∙ or-false (get_or old j false))
      | inr h ↦ c.upper j h within
    ]

    each : (j : ℕ) → j < length names → get_or new j false ≡ is_one_of (found ++ name ∷ []) (name_at names j)
    each j within = now j within ∙ ap (λ b. b || named_at names name j) (ap (λ ms. get_or ms j false) was ∙ mark_at names found j within) ∙ sym (or_one found name (name_at names j))

    waits : (j : ℕ) → j < length names → named_at names name j ≡ true → Contains after j
    waits j within here = elim (cases_lt j c.below) [
      | inl h ↦ absurd (both_ways (named_at names name j) (none j h) here)
      | inr h ↦ c.waits j h within here
    ]

-- ---- a name

-- its fragments are marked already
pub marked_already : (names found : List Bytes) (name : Bytes) (old : List Bool) (before : List ℕ) → old ≡ marks_of names found → ((j : ℕ) → j < length names → named_at names name j ≡ true → is_one_of found (name_at names j) ≡ true)
    → Marked names found (name ∷ []) old before old before
marked_already names found name old before was all = record {
  marks = marks_by_place names (found ++ name ∷ []) old (ap length was ∙ length-map names (is_one_of found)) each;
  stays = λ j h. h;
  waits = λ j within here absent. absurd (both_ways (is_one_of found (name_at names j)) absent (all j within (sym (or-false (named_at names name j)) ∙ here)));
  only = λ j h. inl h;
  left = omega arith;
}
  where
    either : (a b : Bool) → (b ≡ true → a ≡ true) → a ≡ (a || b)
    either true b h = refl
    either false true h = h refl
    either false false h = refl

    each : (j : ℕ) → j < length names → get_or old j false ≡ is_one_of (found ++ name ∷ []) (name_at names j)
    each j within = ap (λ ms. get_or ms j false) was ∙ mark_at names found j within ∙ either (is_one_of found (name_at names j)) (named_at names name j) (all j within) ∙ sym (or_one found name (name_at names j))

-- no fragment has the name
pub marked_none : (names : List Bytes) (name : Bytes) (old : List Bool) (before : List ℕ) → last_place names name ≡ None → Marks names (name ∷ []) old before old before
marked_none names name old before none found was =
    marked_already names found name old before was (λ j within here. absurd (both_ways (named_at names name j) (last_place-None names name none j (omega arith) within) here))

-- the last of the name is marked, and so all are
pub marked_last : (names : List Bytes) (name : Bytes) (old : List Bool) (before : List ℕ) (last : ℕ) → last_place names name ≡ Some last → get_or old last false ≡ true → Marks names (name ∷ []) old before old before
marked_last names name old before last is marked found was =
    let at = last_place-Some names name last is in
    let there : is_one_of found (name_at names last) ≡ true = sym (mark_at names found last at.within) ∙ ap (λ ms. get_or ms last false) (sym was) ∙ marked in
    marked_already names found name old before was
    (λ j within here. ap (is_one_of found) (same_bytes (name_at names j) name here ∙ sym (same_bytes (name_at names last) name at.named)) ∙ there)

-- the last of the name is not marked, and the name is not found
pub not_found : (names : List Bytes) (name : Bytes) (old : List Bool) (last : ℕ) → last_place names name ≡ Some last → get_or old last false ≡ false → (found : List Bytes) → old ≡ marks_of names found → is_one_of found name ≡ false
not_found names name old last is unmarked found was =
    let at = last_place-Some names name last is in
    ap (is_one_of found) (sym (same_bytes (name_at names last) name at.named)) ∙ sym (mark_at names found last at.within) ∙ ap (λ ms. get_or ms last false) (sym was) ∙ unmarked

pub is_fresh : (names : List Bytes) (name : Bytes) (old : List Bool) (found : List Bytes) → old ≡ marks_of names found → is_one_of found name ≡ false → Fresh names name old
is_fresh names name old found was absent j within here = ap (λ ms. get_or ms j false) was ∙ mark_at names found j within ∙ ap (is_one_of found) (same_bytes (name_at names j) name here) ∙ absent

-- ---- names in a row

pub marks_nothing : (names : List Bytes) (old : List Bool) (before : List ℕ) → Marks names [] old before old before
marks_nothing names old before found was = record {
  marks = was ∙ ap (marks_of names) (sym (append-nil found));
  stays = λ j h. h;
  waits = λ j within here absent. absurd (false≢true here);
  only = λ j h. inl h;
  left = omega arith;
}

pub marks_both : (names more others : List Bytes) (old : List Bool) (before : List ℕ) (mid : List Bool) (between : List ℕ) (new : List Bool) (after : List ℕ) →
    Marks names more old before mid between → Marks names others mid between new after → Marks names (more ++ others) old before new after
marks_both names more others old before mid between new after h k found was =
    let first = h found was in
    let second = k (found ++ more) first.marks in
    record {
      marks = second.marks ∙ ap (marks_of names) (append_assoc found more others);
      stays = λ j there. second.stays j (first.stays j there);
      waits = λ j within here absent. waits first second j within here absent;
      only = λ j there. only first second j there;
      left = omega (arith, first.left, second.left);
    }
  where
    waits : Marked names found more old before mid between → Marked names (found ++ more) others mid between new after → (j : ℕ) → j < length names → is_one_of (more ++ others) (name_at names j) ≡ true → is_one_of found (name_at names j) ≡ false → Contains after j
    waits first second j within here absent = elim (cases_Bool (is_one_of more (name_at names j))) [
      | inl one ↦ second.stays j (first.waits j within one absent)
      | inr not_one ↦ elim (or_cases (is_one_of more (name_at names j)) (is_one_of others (name_at names j)) (sym (or_more more others (name_at names j)) ∙ here)) [
        | inl one ↦ absurd (both_ways (is_one_of more (name_at names j)) not_one one)
        | inr other ↦ second.waits j within other (or_more found more (name_at names j) ∙ or_from (is_one_of found (name_at names j)) (is_one_of more (name_at names j)) absent not_one)
      ]
    ]

    only : Marked names found more old before mid between → Marked names (found ++ more) others mid between new after → (j : ℕ) → Contains after j → Contains before j ⊎ (is_one_of (more ++ others) (name_at names j) ≡ true)
    only first second j there = elim (second.only j there) [
      | inr other ↦ inr (or_more more others (name_at names j) ∙ or_right (is_one_of more (name_at names j)) (is_one_of others (name_at names j)) other)
      | inl mid_there ↦ elim (first.only j mid_there) [
        | inl first_there ↦ inl first_there
        | inr one ↦ inr (or_more more others (name_at names j) ∙ or_left (is_one_of more (name_at names j)) (is_one_of others (name_at names j)) one)
      ]
    ]

-- ---- the same under equal names

pub chain_as : (names : List Bytes) (name : Bytes) (old : List Bool) (before : List ℕ) (next next' : Option ℕ) (new new' : List Bool) (after after' : List ℕ) → next ≡ next' → new ≡ new' → after ≡ after'
    → Chain names name old before next new after → Chain names name old before next' new' after'
chain_as names name old before next next' new new' after after' e f g c =
    subst (λ a. Chain names name old before next' new' a) g (subst (λ n. Chain names name old before next' n after) f (subst (λ n. Chain names name old before n new after) e c))

pub on_ok : {A E : Type 0} (r : Result A E) (P Q : Type 0) → (P → Q) → OnOk r P → OnOk r Q
on_ok (Ok x) P Q f h = f h
on_ok (Err e) P Q f h = tt

-- ---- spreads in a row

pub more_spread : (spreads : List Spread) (i : ℕ) (d : Spread) → i < length spreads → spread_names (take (i + 1) spreads) ≡ spread_names (take i spreads) ++ (get_or spreads i d).name.now ∷ []
more_spread spreads i d within = ap spread_names (take_more spreads i d within) ∙ map-append (λ s. s.name.now) (take i spreads) (get_or spreads i d ∷ [])
