-- Fields joined one by one are the fields of the join, where no key stands twice.
use Rattle.std.proofs.Common.{◌≡◌, Bool, true, false, not, is_some, cond, List, [], ◌∷◌, ◌++◌, get_or, Option, Some, None, ap, sym, subst, refl, ◌∙◌}
use Rattle.std.specs.List.{All, AllByRecursion, IsDistinct}
use Rattle.std.specs.Map.{keys_of, values_of}
use Rattle.std.specs.Str.{bytes_eq}
use Rattle.std.specs.Cmp.Lexicographic.{nat_list_eq_equiv}
use Rattle.std.proofs.lemmas.List.{map-append}
use Rattle.std.proofs.lemmas.List.Elements.{All-append, All-cons, All-filter, All-head, All-map, All-nil, All-tail, filter_passes}
use Rattle.std.proofs.lemmas.Map.Keys.{IsDistinct-cons, IsDistinct-head, IsDistinct-tail}
use Rattle.std.proofs.lemmas.Map.Made.{IsDistinct-keys_filter}
use Rattle.graphql_names.specs.Names.{Bytes}
use Rattle.graphql_output_values.specs.DistinctKeys.{HasDistinctKeysThroughout}
use Rattle.graphql_output_values.specs.Objects.{Pair, HasDistinctKeys, field_value}
use Rattle.graphql_output_values.specs.declared.value.Value.{Value}
use Rattle.graphql_joins.specs.Joins.{IsJoin, ItemsJoin, no_items, more_items, MembersJoin, new_keys, key_of_both, key_of_first, without}
use Rattle.graphql_joined_data.specs.Joining.{JoinsWith, new_fields}
use Rattle.graphql_joined_data.proofs.Differing.{without-other}

other-way : (k j : Bytes) → bytes_eq k j ≡ false → bytes_eq j k ≡ false
other-way k j e = nat_list_eq_equiv.symm j k ∙ e

-- ---- the fields that are new

abbrev Fields : Type 0 → Type 0
Fields A = List (Pair A)

module _ {A : Type 0} where
  all-new : (ys : Fields A) → new_fields [] ys ≡ ys
  all-new [] = refl
  all-new (m ∷ ys) = ap (λ ms. m ∷ ms) (all-new ys)

  -- those of other keys than k are new beside k's field and the others as beside the others
  new-without : (k : Bytes) (x : A) (xs ys : Fields A) → new_fields xs (without k ys) ≡ new_fields ((k, x) ∷ xs) ys
  new-without k x xs [] = refl
  new-without k x xs (m ∷ ys) = either (bytes_eq m.0 k) (new-without k x xs ys)
    where
      either : (q : Bool) → new_fields xs (without k ys) ≡ new_fields ((k, x) ∷ xs) ys
          → new_fields xs (cond (not q) (m ∷ without k ys) (without k ys))
          ≡ cond (not (is_some (cond q (Some x) (field_value xs m.0)))) (m ∷ new_fields ((k, x) ∷ xs) ys) (new_fields ((k, x) ∷ xs) ys)
      either true rest = rest
      either false rest = (λ i. cond (not (is_some (field_value xs m.0))) (m ∷ rest i) (rest i))

  new-beside : (k : Bytes) (x : A) (xs ys : Fields A) → field_value ys k ≡ None → new_fields xs ys ≡ new_fields ((k, x) ∷ xs) ys
  new-beside k x xs [] e = refl
  new-beside k x xs (m ∷ ys) e = either (bytes_eq k m.0) refl e (new-beside k x xs ys)
    where
      either : (q : Bool) → bytes_eq k m.0 ≡ q → cond q (Some m.1) (field_value ys k) ≡ None
          → (field_value ys k ≡ None → new_fields xs ys ≡ new_fields ((k, x) ∷ xs) ys)
          → new_fields xs (m ∷ ys) ≡ new_fields ((k, x) ∷ xs) (m ∷ ys)
      either true is h rest = absurd (cc)
      either false is h rest =
          (λ i. cond (not (is_some (field_value xs m.0))) (m ∷ rest h i) (rest h i))
          ∙ ap (λ q. cond (not (is_some (cond q (Some x) (field_value xs m.0)))) (m ∷ new_fields ((k, x) ∷ xs) ys) (new_fields ((k, x) ∷ xs) ys)) (sym (other-way k m.0 is))

  -- ---- no key stands twice

  abbrev IsNew : Fields A → Pair A → Type 0
  IsNew xs m = not (is_some (field_value xs m.0)) ≡ true

  past : (k : Bytes) (x : A) (xs : Fields A) (m : Pair A) → IsNew ((k, x) ∷ xs) m → (bytes_eq k m.0 ≡ false) × IsNew xs m
  past k x xs m h = either (bytes_eq m.0 k) refl h
    where
      either : (q : Bool) → bytes_eq m.0 k ≡ q → not (is_some (cond q (Some x) (field_value xs m.0))) ≡ true → (bytes_eq k m.0 ≡ false) × IsNew xs m
      either true is g = absurd (cc)
      either false is g = (other-way m.0 k is, g)

  unlike-new : (k : Bytes) (x : A) (xs ws : Fields A) → All (IsNew ((k, x) ∷ xs)) ws → (js : List Bytes) → AllByRecursion (λ y. bytes_eq k y ≡ false) js → AllByRecursion (λ y. bytes_eq k y ≡ false) (js ++ keys_of ws)
  unlike-new k x xs ws all (j ∷ js) each = (each.0, unlike-new k x xs ws all js each.1)
  unlike-new k x xs [] all [] each = tt
  unlike-new k x xs (m ∷ ws) all [] each =
      ((past k x xs m (All-head (IsNew ((k, x) ∷ xs)) m ws all)).0, unlike-new k x xs ws (All-tail (IsNew ((k, x) ∷ xs)) m ws all) [] tt)

  new-too : (k : Bytes) (x : A) (xs ws : Fields A) → All (IsNew ((k, x) ∷ xs)) ws → All (IsNew xs) ws
  new-too k x xs ws all i d h = (past k x xs (get_or ws i d) (all i d h)).1

  distinct-both : (xs ws : Fields A) → HasDistinctKeys xs → HasDistinctKeys ws → All (IsNew xs) ws → IsDistinct bytes_eq (keys_of xs ++ keys_of ws)
  distinct-both [] ws d e all = e
  distinct-both (p ∷ xs) ws d e all =
      IsDistinct-cons bytes_eq p.0 (keys_of xs ++ keys_of ws) (unlike-new p.0 p.1 xs ws all (keys_of xs) (IsDistinct-head bytes_eq p.0 (keys_of xs) d))
      (distinct-both xs ws (IsDistinct-tail bytes_eq p.0 (keys_of xs) d) e (new-too p.0 p.1 xs ws all))

  pub distinct-joined : (xs ys zs : Fields A) → HasDistinctKeys xs → HasDistinctKeys ys → keys_of zs ≡ keys_of xs → HasDistinctKeys (zs ++ new_fields xs ys)
  distinct-joined xs ys zs d e same =
      let isnt = λ (field : Pair A). not (is_some (field_value xs field.0)) in
      subst (IsDistinct bytes_eq) ((λ i. sym same i ++ keys_of (new_fields xs ys)) ∙ sym (map-append (λ (p : Pair A). p.0) zs (new_fields xs ys)))
      (distinct-both xs (new_fields xs ys) d (IsDistinct-keys_filter bytes_eq isnt ys e) (filter_passes isnt ys))

-- ---- the fields of the join

abbrev pub Members : Type 0 → Type 0
Members S = Fields (Value S)

module _ {S : Type 0} where
  -- the fields of the first, each joined with the second's
  abbrev pub EachJoined : Members S → Members S → Members S → Type 0
  EachJoined ys [] [] = Unit {0}
  EachJoined ys [] (q ∷ zs) = ⊥
  EachJoined ys (p ∷ xs) [] = ⊥
  EachJoined ys (p ∷ xs) (q ∷ zs) = (q.0 ≡ p.0) × JoinsWith p.1 (field_value ys p.0) q.1 × EachJoined ys xs zs

  pub one-more : (ys xs zs : Members S) (p q : Pair (Value S)) → EachJoined ys xs zs → q.0 ≡ p.0 → JoinsWith p.1 (field_value ys p.0) q.1 → EachJoined ys (xs ++ p ∷ []) (zs ++ q ∷ [])
  one-more ys [] [] p q each e j = (e, j, tt)
  one-more ys [] (r ∷ zs) p q each e j = absurd each
  one-more ys (r ∷ xs) [] p q each e j = absurd each
  one-more ys (r ∷ xs) (t ∷ zs) p q each e j = (each.0, each.1, one-more ys xs zs p q each.2 e j)

  each-without : (k : Bytes) (ys xs zs : Members S) → AllByRecursion (λ j. bytes_eq k j ≡ false) (keys_of xs) → EachJoined ys xs zs → EachJoined (without k ys) xs zs
  each-without k ys [] [] other each = tt
  each-without k ys [] (q ∷ zs) other each = each
  each-without k ys (p ∷ xs) [] other each = each
  each-without k ys (p ∷ xs) (q ∷ zs) other each =
      (each.0, subst (λ o. JoinsWith p.1 o q.1) (sym (without-other k p.0 ys (other-way k p.0 other.0))) each.1, each-without k ys xs zs other.1 each.2)

  pub members-joined : (xs ys zs : Members S) → HasDistinctKeys xs → EachJoined ys xs zs → MembersJoin xs ys (zs ++ new_fields xs ys)
  members-joined [] ys [] d each = subst (MembersJoin [] ys) (sym (all-new ys)) (new_keys ys)
  members-joined [] ys (q ∷ zs) d each = absurd each
  members-joined (p ∷ xs) ys [] d each = absurd each
  members-joined (p ∷ xs) ys (q ∷ zs) d each =
      either (field_value ys p.0) refl each.1 (members-joined xs ys zs (IsDistinct-tail bytes_eq p.0 (keys_of xs) d) each.2)
      (members-joined xs (without p.0 ys) zs (IsDistinct-tail bytes_eq p.0 (keys_of xs) d) (each-without p.0 ys xs zs (IsDistinct-head bytes_eq p.0 (keys_of xs) d) each.2))
    where
      behind : Members S
      behind = zs ++ new_fields (p ∷ xs) ys

      named : MembersJoin (p ∷ xs) ys ((p.0, q.1) ∷ behind) → MembersJoin (p ∷ xs) ys (q ∷ behind)
      named h = subst (λ k. MembersJoin (p ∷ xs) ys ((k, q.1) ∷ behind)) (sym each.0) h

      either : (o : Option (Value S)) → field_value ys p.0 ≡ o → JoinsWith p.1 o q.1
          → MembersJoin xs ys (zs ++ new_fields xs ys) → MembersJoin xs (without p.0 ys) (zs ++ new_fields xs (without p.0 ys))
          → MembersJoin (p ∷ xs) ys (q ∷ behind)
      either None e same beside past_key =
          let rest : MembersJoin xs ys behind = subst (λ ws. MembersJoin xs ys (zs ++ ws)) (new-beside p.0 p.1 xs ys e) beside in
          named (subst (λ z. MembersJoin (p ∷ xs) ys ((p.0, z) ∷ behind)) (sym same) (key_of_first p.0 p.1 xs ys behind e rest))
      either (Some y) e join beside past_key =
          let rest : MembersJoin xs (without p.0 ys) behind =
          subst (λ ws. MembersJoin xs (without p.0 ys) (zs ++ ws)) (new-without p.0 p.1 xs ys) past_key in
          named (key_of_both p.0 p.1 y q.1 xs ys behind e join rest)

  pub under-keys : (ws : Members S) → All HasDistinctKeysThroughout (values_of ws) → All (λ p. HasDistinctKeysThroughout p.1) ws
  under-keys [] all = All-nil (λ p. HasDistinctKeysThroughout p.1)
  under-keys (w ∷ ws) all =
      All-cons (λ p. HasDistinctKeysThroughout p.1) w ws (All-head HasDistinctKeysThroughout w.1 (values_of ws) all)
      (under-keys ws (All-tail HasDistinctKeysThroughout w.1 (values_of ws) all))

  pub one-more-item : (xs ys zs : List (Value S)) (x y z : Value S) → ItemsJoin xs ys zs → IsJoin x y z → ItemsJoin (xs ++ x ∷ []) (ys ++ y ∷ []) (zs ++ z ∷ [])
  one-more-item _ _ _ x y z no_items j = more_items x y z [] [] [] j no_items
  one-more-item _ _ _ x y z (more_items u v w xs ys zs i rest) j = more_items u v w (xs ++ x ∷ []) (ys ++ y ∷ []) (zs ++ z ∷ []) i (one-more-item xs ys zs x y z rest j)

  pub values-joined : (xs ys zs : Members S) → All HasDistinctKeysThroughout (values_of ys) → All HasDistinctKeysThroughout (values_of zs)
      → All HasDistinctKeysThroughout (values_of (zs ++ new_fields xs ys))
  values-joined xs ys zs theirs ours =
      let isnt = λ (field : Pair (Value S)). not (is_some (field_value xs field.0)) in
      subst (All HasDistinctKeysThroughout) (sym (map-append (λ (p : Pair (Value S)). p.1) zs (new_fields xs ys)))
      (All-append HasDistinctKeysThroughout (values_of zs) (values_of (new_fields xs ys)) ours
      (All-map HasDistinctKeysThroughout (λ (p : Pair (Value S)). p.1) (new_fields xs ys)
      (All-filter isnt (λ p. HasDistinctKeysThroughout p.1) ys (under-keys ys theirs))))
