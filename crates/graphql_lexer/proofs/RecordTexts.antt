-- The tokens within a part of a text, found by search.
use Rattle.std.proofs.Common.{◌≡◌, ◌<◌, ◌≤◌, ℕ, zero, suc, Bool, true, false, ◌&&◌, cond, List, [], ◌∷◌, drop, length, map, get_or, sym, subst, ap, ◌∙◌, refl, arith}
use Rattle.std.specs.Prelude.{nat_le, ltb, slice_range}
use Rattle.std.specs.List.{AllWithin, filter}
use Rattle.std.specs.List.Sorted.{IsPartitionPoint}
use Rattle.std.proofs.lemmas.Bool.{ltb-true, ltb-false, le-leb, lt-leb}
use Rattle.std.proofs.lemmas.List.{take_rest}
use Rattle.std.proofs.lemmas.List.Elements.{All-head, All-tail}
use Rattle.graphql_text.specs.declared.position.Span.{Span}
use Rattle.graphql_lexer.specs.declared.token_record.TokenRecord.{TokenRecord}
use Rattle.graphql_text.specs.Tokens.{Located}
use Rattle.graphql_lexer.specs.Records.{AreRecords, StandsIn, token_of, tokens_in}
use Rattle.graphql_lexer.specs.Within.{Rises, within, with_text, texts_within, texts_until}

-- ---- where the search begins

starts_behind : (source : List ℕ) (rs : List TokenRecord) (from k : ℕ) (d : TokenRecord) → Rises from (tokens_in source rs) → k < length rs → from ≤ (get_or rs k d).start.index
unfolding token_of
starts_behind source [] from k d h l = absurd (omega arith)
starts_behind source (r ∷ rs) from zero d h l = h.0
starts_behind source (r ∷ rs) from (suc k) d h l =
    let more = starts_behind source rs (token_of source r).span.end.index k d h.2 (omega arith) in
    let h0 = h.0 in let h1 = h.1 in omega arith

pub starts_rise : (source : List ℕ) (rs : List TokenRecord) (from : ℕ) → Rises from (tokens_in source rs)
    → (i j : ℕ) (d : TokenRecord) → i ≤ j → j < length rs → (get_or rs i d).start.index ≤ (get_or rs j d).start.index
unfolding token_of
starts_rise source [] from h i j d a b = absurd (omega arith)
starts_rise source (r ∷ rs) from h zero zero d a b = omega arith
starts_rise source (r ∷ rs) from h zero (suc j) d a b =
    let more = starts_behind source rs (token_of source r).span.end.index j d h.2 (omega arith) in
    let h1 = h.1 in omega arith
starts_rise source (r ∷ rs) from h (suc i) zero d a b = absurd (omega arith)
starts_rise source (r ∷ rs) from h (suc i) (suc j) d a b = starts_rise source rs (token_of source r).span.end.index h.2 i j d (omega arith) (omega arith)

-- ---- those within a part are those from the first that is found on, as far as the end of the part

abbrev Before : ℕ → TokenRecord → Type 0
Before index r = r.start.index < index

abbrev From : ℕ → TokenRecord → Type 0
From index r = index ≤ r.start.index

-- the tests of a search tell it
pub parted : (rs : List TokenRecord) (index n : ℕ) → IsPartitionPoint (λ (r : TokenRecord). ltb r.start.index index ≡ true) (λ (r : TokenRecord). ltb r.start.index index ≡ false) rs n → IsPartitionPoint (Before index) (From index) rs n
parted rs index n h = (λ k d a b. ltb-true (get_or rs k d).start.index index (h.0 k d a b), λ k d a b. ltb-false (get_or rs k d).start.index index (h.1 k d a b))

module _ (source : List ℕ) (span : Span) where
  abbrev ends : Located → Bool
  ends t = nat_le t.span.end.index span.end.index

  all_from : (rs : List TokenRecord) → AllWithin (From span.start.index) rs 0 (length rs) → within (tokens_in source rs) span ≡ filter ends (tokens_in source rs)
  unfolding token_of
  all_from [] h = refl
  all_from (r ∷ rs) h =
      let t = token_of source r in
      let starts : nat_le span.start.index t.span.start.index ≡ true = le-leb span.start.index t.span.start.index (h 0 r (omega arith) (omega arith)) in
      let others = all_from rs (λ k d a b. h (suc k) d (omega arith) (omega arith)) in
      (λ i. cond (starts i && ends t) (t ∷ others i) (others i))

  found_from : (rs : List TokenRecord) (n : ℕ) → IsPartitionPoint (Before span.start.index) (From span.start.index) rs n
      → filter ends (tokens_in source (drop n rs)) ≡ within (tokens_in source rs) span
  unfolding token_of
  found_from rs zero h = sym (all_from rs h.1)
  found_from [] (suc n) h = refl
  found_from (r ∷ rs) (suc n) h =
      let t = token_of source r in
      let sooner : nat_le span.start.index t.span.start.index ≡ false = lt-leb span.start.index t.span.start.index (h.0 0 r (omega arith) (omega arith)) in
      let others = found_from rs n (λ k d a b. h.0 (suc k) d (omega arith) (omega arith), λ k d a b. h.1 (suc k) d (omega arith) (omega arith)) in
      others ∙ sym (ap (λ b. cond (b && ends t) (t ∷ within (tokens_in source rs) span) (within (tokens_in source rs) span)) sooner)

  found_texts : (rs : List TokenRecord) (n : ℕ) → IsPartitionPoint (Before span.start.index) (From span.start.index) rs n
      → texts_until span.end.index (tokens_in source (drop n rs)) ≡ texts_within (tokens_in source rs) span
  found_texts rs n h = ap (map with_text) (found_from rs n h)

  pub found : (rs : List TokenRecord) (n : ℕ) → IsPartitionPoint (Before span.start.index) (From span.start.index) rs n
      → texts_until span.end.index (tokens_in source (slice_range rs n (length rs))) ≡ texts_within (tokens_in source rs) span
  found rs n h = ap (λ us. texts_until span.end.index (tokens_in source us)) (take_rest rs n) ∙ found_texts rs n h

-- ---- what is left of them

rises_from : (from to : ℕ) (ts : List Located) → to ≤ from → Rises from ts → Rises to ts
rises_from from to [] l h = tt
rises_from from to (t ∷ ts) l h = (let h0 = h.0 in omega arith, h.1, h.2)

others_are : (source : List ℕ) (r : TokenRecord) (rs : List TokenRecord) → AreRecords source (r ∷ rs) → AreRecords source rs
others_are source r rs h = (All-tail (StandsIn source) r rs h.0, rises_from (token_of source r).span.end.index 0 (tokens_in source rs) (omega arith) h.1.2)

dropped_are : (source : List ℕ) (rs : List TokenRecord) (n : ℕ) → AreRecords source rs → AreRecords source (drop n rs)
dropped_are source rs zero h = h
dropped_are source [] (suc n) h = h
dropped_are source (r ∷ rs) (suc n) h = dropped_are source rs n (others_are source r rs h)

pub found_are : (source : List ℕ) (rs : List TokenRecord) (n : ℕ) → AreRecords source rs → AreRecords source (slice_range rs n (length rs))
found_are source rs n h = let P : List TokenRecord → Type 0 = AreRecords source in subst P (sym (take_rest rs n)) (dropped_are source rs n h)

none_behind : (end from : ℕ) (ts : List Located) → Rises from ts → end < from → texts_until end ts ≡ []
none_behind end from [] h l = refl
none_behind end from (t ∷ ts) h l =
    let h0 = h.0 in let h1 = h.1 in
    let kept = filter (λ (x : Located). nat_le x.span.end.index end) ts in
    ap (λ b. map with_text (cond b (t ∷ kept) kept)) (lt-leb t.span.end.index end (omega arith)) ∙ none_behind end t.span.end.index ts h.2 (omega arith)

-- ---- the next one, of those that are left

module _ (source : List ℕ) (end : ℕ) (left others : List TokenRecord) (first : TokenRecord) (are : AreRecords source left) (is : left ≡ first ∷ others) where
  abbrev next : Located
  next = token_of source first

  abbrev behind : List Located
  behind = filter (λ (x : Located). nat_le x.span.end.index end) (tokens_in source others)

  left_are : AreRecords source (first ∷ others)
  left_are = let P : List TokenRecord → Type 0 = AreRecords source in subst P is are

  pub first_fits : StandsIn source first
  first_fits = All-head (StandsIn source) first others left_are.0

  pub others_left : AreRecords source others
  others_left = others_are source first others left_are

  pub first_within : next.span.end.index ≤ end → texts_until end (tokens_in source left) ≡ with_text next ∷ texts_until end (tokens_in source others)
  first_within l = ap (λ rs. texts_until end (tokens_in source rs)) is ∙ ap (λ b. map with_text (cond b (next ∷ behind) behind)) (le-leb next.span.end.index end l)

  -- it ends behind the part, and so do all others
  pub none_within : end < next.span.end.index → texts_until end (tokens_in source left) ≡ []
  none_within l =
      ap (λ rs. texts_until end (tokens_in source rs)) is ∙ ap (λ b. map with_text (cond b (next ∷ behind) behind)) (lt-leb next.span.end.index end l)
      ∙ none_behind end next.span.end.index (tokens_in source others) left_are.1.2 l

pub none_left : (source : List ℕ) (end : ℕ) (left : List TokenRecord) → length left ≡ 0 → texts_until end (tokens_in source left) ≡ []
none_left source end [] h = refl
none_left source end (r ∷ rs) h = absurd (omega (arith, h))
