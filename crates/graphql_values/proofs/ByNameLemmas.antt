-- Fields that are lent, and fields in the order of their names.
use Rattle.std.proofs.Common.{◌≡◌, ℕ, suc, ◌+◌, ◌<◌, ◌≤◌, Bool, true, false, cond, not, ◌&&◌, Ordering, Less, Equal, Greater, is_lt, is_eq, nat_cmp, Bor, Result, IfOk, IsPermutation, List, [], ◌∷◌, map, length, get_or, add-one, ap, sym, subst, refl, ◌∙◌, arith}
use Rattle.std.specs.Cmp.Lexicographic.{slice_cmp}
use Rattle.std.specs.FinMap.{nat_cmp-IsAntisymmetric, slice_cmp-IsAntisymmetric}
use Rattle.std.specs.List.{filter}
use Rattle.std.specs.List.Sorted.{IsSortedByKey, IsStableByKey, ties}
use Rattle.std.specs.Ordering.{ordering_index, ordering_reverse}
use Rattle.std.specs.Str.{bytes_eq}
use Rattle.std.proofs.Math.ListN.{get_or-map}
use Rattle.std.proofs.Math.Seq.{get_or-append_seam}
use Rattle.std.proofs.lemmas.Cmp.{nat_list_cmp_total, tied_itself}
use Rattle.std.proofs.lemmas.List.{length-append, length-map}
use Rattle.std.proofs.lemmas.List.Sorted.{searchable_from_sorted, IsPermutation-map}
use Rattle.std.proofs.lemmas.Map.Text.{is_eq-slice_cmp}
use Rattle.graphql_text.specs.declared.text.Text.{Text}
use Rattle.graphql_values.specs.declared.input_value.InputValue.{InputValue}
use Rattle.graphql_values.specs.Comparing.{Both, IsByName, LeavesSame, lent}
use Rattle.graphql_values.specs.InputValues.{Pair, unplaced_pair}
use Rattle.graphql_values.specs.SameValue.{SameItems, SameFields, names, values_named}
use Rattle.graphql_values.proofs.OrderLemmas.{both_less}
use Rattle.graphql_values.proofs.SameValueLemmas.{fields_length, items_length}
use Rattle.graphql_values.proofs.UnderLemmas.{count, standing, under_named}

-- ---- fields that are lent

module _ {A : Type 0} where
  -- lent from nowhere
  abbrev pub lend : A → Bor A
  lend x = record { ref_ptr = (0, 0); now = x }

  pub lent_at : (bs : List (Bor A)) (k : ℕ) (x : A) → get_or (lent bs) k x ≡ (get_or bs k (lend x)).now
  lent_at bs k x = get_or-map (λ b. b.now) bs k (lend x)

  pub lent_is : (bs : List (Bor A)) (k : ℕ) (b : Bor A) → b ≡ get_or bs k b → b.now ≡ get_or (lent bs) k b.now
  lent_is bs k b is = ap (λ z. z.now) is ∙ sym (get_or-map (λ z. z.now) bs k b)

  pub lent_length : (bs : List (Bor A)) → length (lent bs) ≡ length bs
  lent_length bs = length-map bs (λ b. b.now)

  filter_lent : (test : A → Bool) (bs : List (Bor A)) → filter test (lent bs) ≡ lent (filter (λ b. test b.now) bs)
  filter_lent test [] = refl
  filter_lent test (b ∷ bs) = either (test b.now) (filter_lent test bs)
    where
      either : (kept : Bool) → filter test (lent bs) ≡ lent (filter (λ c. test c.now) bs)
          → cond kept (b.now ∷ filter test (lent bs)) (filter test (lent bs)) ≡ lent (cond kept (b ∷ filter (λ c. test c.now) bs) (filter (λ c. test c.now) bs))
      either true rest = ap (λ xs. b.now ∷ xs) rest
      either false rest = rest

-- ---- names that tie

turned : (o : Ordering) → (not (is_lt (ordering_reverse o)) && not (is_lt o)) ≡ is_eq o
turned Less = refl
turned Equal = refl
turned Greater = refl

level : (o : Ordering) → ordering_index o ≤ 1 → ordering_index (ordering_reverse o) ≤ 1 → o ≡ Equal
level Less h k = absurd (omega (arith, k))
level Equal h k = refl
level Greater h k = absurd (omega (arith, h))

abbrev order : Text → Text → Ordering
order = slice_cmp nat_cmp

module _ {A : Type 0} where
  abbrev lt : Bor (Pair A) → Bor (Pair A) → Bool
  lt b c = is_lt (order b.now.0.item c.now.0.item)

  tied : (x b : Bor (Pair A)) → ties lt x b ≡ bytes_eq b.now.0.item x.now.0.item
  tied x b =
      let back = order b.now.0.item x.now.0.item in
      ap (λ o. not (is_lt o) && not (is_lt back)) (nat_list_cmp_total.antisymm x.now.0.item b.now.0.item) ∙ turned back ∙ is_eq-slice_cmp b.now.0.item x.now.0.item

  tied_fields : (x : Bor (Pair A)) (bs : List (Bor (Pair A))) → filter (ties lt x) bs ≡ filter (λ b. bytes_eq b.now.0.item x.now.0.item) bs
  tied_fields x bs = λ i. filter (λ b. tied x b i) bs

  -- a stable sort keeps the order of what stands under a name
  stable_under : (a : A) (old new : List (Bor (Pair A))) → IsStableByKey (λ b. b.now.0.item) order old new → (name : Text) → values_named name (lent new) ≡ values_named name (lent old)
  stable_under a old new stable name =
      let x : Bor (Pair A) = lend (unplaced_pair (name, a)) in
      let test : Pair A → Bool = λ p. bytes_eq p.0.item name in
      ap (map (λ p. p.1)) (filter_lent test new ∙ ap lent (sym (tied_fields x new) ∙ stable x ∙ tied_fields x old) ∙ sym (filter_lent test old))

  -- ---- fields in the order of their names

  abbrev InOrder : List (Pair A) → Type 0
  InOrder ps = IsSortedByKey (λ p. p.0.item) order ps

  in_order_rest : (p : Pair A) (ps : List (Pair A)) → InOrder (p ∷ ps) → InOrder ps
  in_order_rest p ps sorted k d low within =
      ap (λ n. is_lt (order (get_or ps n d).0.item (get_or ps k d).0.item)) (add-one k)
      ∙ subst (λ n. is_lt (order (get_or (p ∷ ps) n d).0.item (get_or ps k d).0.item) ≡ false) (add-one (suc k)) (sorted (suc k) d (omega arith) (omega (arith, within)))

  lent_in_order : (bs : List (Bor (Pair A))) → IsSortedByKey (λ b. b.now.0.item) order bs → InOrder (lent bs)
  lent_in_order bs sorted k d low within = (λ i. is_lt (order (lent_at bs (k + 1) d i).0.item (lent_at bs k d i).0.item)) ∙ sorted k (lend d) low (omega (arith, within, lent_length bs))

  pub put_by_name :
      (a : A) (given before after sorted : List (Bor (Pair A))) → before ≡ given → sorted ≡ after → IsPermutation before after → IsStableByKey (λ b. b.now.0.item) order before after → IsSortedByKey (λ b. b.now.0.item) order after
      → IsByName (lent given) (lent sorted)
  put_by_name a given before after sorted start end moved stable in_order =
      subst (λ bs. IsByName (lent bs) (lent sorted)) start
      (subst (λ bs. IsByName (lent before) (lent bs)) (sym end) (IsPermutation-map (λ b. b.now) before after moved, stable_under a before after stable, lent_in_order after in_order))

  -- the first of them is not above a name that stands among them
  not_above : (q : Pair A) (qs : List (Pair A)) (name : Text) → InOrder (q ∷ qs) → 0 < count name (q ∷ qs) → ordering_index (order q.0.item name) ≤ 1
  not_above q qs name sorted some =
      let there = standing name (q ∷ qs) some in
      let at = length there.0 in
      let within : at < length (q ∷ qs) = omega (arith, ap length there.3, length-append there.0 (there.1 ∷ there.2)) in
      let rises = searchable_from_sorted nat_list_cmp_total (λ (p : Pair A). p.0.item) (q ∷ qs) name sorted 0 at q (omega arith) within in
      let is : get_or (q ∷ qs) at q ≡ there.1 = ap (λ xs. get_or xs at q) there.3 ∙ get_or-append_seam there.0 there.1 there.2 q in
      let equal : order (get_or (q ∷ qs) at q).0.item name ≡ Equal = ap (λ n. order n name) (ap (λ p. p.0.item) is ∙ there.4) ∙ tied_itself nat_list_cmp_total name in
      omega (arith, rises, ap ordering_index equal)

  same_first : (p q : Pair A) (ps qs : List (Pair A)) → InOrder (p ∷ ps) → InOrder (q ∷ qs) → 0 < count q.0.item (p ∷ ps) → 0 < count p.0.item (q ∷ qs) → p.0.item ≡ q.0.item
  same_first p q ps qs left right there back =
      let turn = nat_list_cmp_total.antisymm q.0.item p.0.item in
      let other : ordering_index (ordering_reverse (order p.0.item q.0.item)) ≤ 1 = omega (arith, ap ordering_index turn, not_above q qs p.0.item right back) in
      slice_cmp-IsAntisymmetric nat_cmp-IsAntisymmetric p.0.item q.0.item (level (order p.0.item q.0.item) (not_above p ps q.0.item left there) other)

module _ {S : Type 0} (eq : S → S → Bool) where
  -- the same fields in the order of their names have the same names, place by place
  pub same_names : (ps qs : List (Pair (InputValue S))) → InOrder ps → InOrder qs → SameFields S eq ps qs → names ps ≡ names qs
  same_names [] [] left right same = refl
  same_names [] (q ∷ qs) left right same = absurd (omega (arith, fields_length eq [] (q ∷ qs) same))
  same_names (p ∷ ps) [] left right same = absurd (omega (arith, fields_length eq (p ∷ ps) [] same))
  same_names (p ∷ ps) (q ∷ qs) left right same =
      let there : count q.0.item (p ∷ ps) ≡ count q.0.item (q ∷ qs) = items_length eq _ _ (same q.0.item) in
      let back : count p.0.item (p ∷ ps) ≡ count p.0.item (q ∷ qs) = items_length eq _ _ (same p.0.item) in
      let alike = same_first p q ps qs left right (omega (arith, there, ap length (under_named q.0.item q qs refl))) (omega (arith, back, ap length (under_named p.0.item p ps refl))) in
      ap (λ n. n ∷ names ps) alike ∙ ap (λ ns. q.0.item ∷ ns) (same_names ps qs (in_order_rest p ps left) (in_order_rest q qs right) (both_less eq p q ps qs alike same))

  pub same_as_put : (ps qs us vs : List (Pair (InputValue S))) → ((name : Text) → values_named name us ≡ values_named name ps) → ((name : Text) → values_named name vs ≡ values_named name qs) → SameFields S eq us vs → SameFields S eq ps qs
  same_as_put ps qs us vs left right same name = subst (λ xs. SameItems S eq xs (values_named name qs)) (left name) (subst (SameItems S eq (values_named name us)) (right name) (same name))

  -- the same of other names for the fields
  pub leaves_of :
      {E : Type 0} (r : Result Bool E) (ps qs us vs : List (Pair (InputValue S))) (old new : List (Both S)) → us ≡ ps → vs ≡ qs → IfOk r (LeavesSame eq (SameFields S eq us vs) old new)
      → IfOk r (LeavesSame eq (SameFields S eq ps qs) old new)
  leaves_of r ps qs us vs old new left right h = subst (λ zs. IfOk r (LeavesSame eq (SameFields S eq zs qs) old new)) left (subst (λ zs. IfOk r (LeavesSame eq (SameFields S eq us zs) old new)) right h)
