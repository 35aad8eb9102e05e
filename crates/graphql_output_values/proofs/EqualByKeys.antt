-- What a walk over fields finds of the equality of objects.
use Rattle.std.proofs.Common.{◌≡◌, ◌<◌, ◌≤◌, ◌+◌, inl, inr, ℕ, zero, suc, Bool, true, false, cond, ◌&&◌, List, [], ◌∷◌, ◌++◌, length, get_or, take, Option, Some, None, is_some, ap, sym, refl, ◌∙◌, arith}
use Rattle.std.specs.List.{list_all, position_from}
use Rattle.std.specs.Map.{keys_of}
use Rattle.std.specs.Str.{bytes_eq}
use Rattle.std.proofs.lemmas.Bool.{cases_order}
use Rattle.std.proofs.lemmas.Iterator.Adapters.{position_from-zero}
use Rattle.std.proofs.lemmas.List.{get_or-map, get_or-take, length-take, map_push, take_more, take_all}
use Rattle.std.proofs.lemmas.List.Folds.{list_all-append, list_all_at}
use Rattle.std.proofs.lemmas.List.Quantifiers.{position-Some}
use Rattle.std.proofs.lemmas.List.Sums.{AllPass-from_list_all}
use Rattle.std.proofs.lemmas.Slice.Eq.{bytes_eq-Decides}
use Rattle.graphql_output_values.specs.Equality.{agree, agree_under, fields_equal}
use Rattle.graphql_output_values.specs.Objects.{Pair, field_value}
use Rattle.graphql_output_values.proofs.EqualityTests.{fields_apart, keys_by_fields}
use Rattle.graphql_output_values.proofs.ObjectLemmas.{place, value_at, there_if_value}

module _ {A B : Type 0} where
  -- the same keys have the same key at each place
  pub keys_at : (fs : List (Pair A)) (gs : List (Pair B)) (i : ℕ) (f : Pair A) (g : Pair B) → i < length fs → i < length gs → keys_of fs ≡ keys_of gs → (get_or fs i f).0 ≡ (get_or gs i g).0
  keys_at fs gs i f g in_fs in_gs same =
      sym (get_or-map (λ p. p.0) fs i f f.0 in_fs) ∙ ap (λ ks. get_or ks i f.0) same ∙ get_or-map (λ p. p.0) gs i g f.0 in_gs

  -- and one more place
  pub keys_more : (fs : List (Pair A)) (gs : List (Pair B)) (i : ℕ) (f : Pair A) (g : Pair B) → i < length fs → i < length gs → (get_or fs i f).0 ≡ (get_or gs i g).0 → keys_of (take i fs) ≡ keys_of (take i gs)
      → keys_of (take (i + 1) fs) ≡ keys_of (take (i + 1) gs)
  keys_more fs gs i f g in_fs in_gs here before =
      ap keys_of (take_more fs i f in_fs)
      ∙ map_push (λ p. p.0) (take i fs) (get_or fs i f)
      ∙ (λ j. before j ++ here j ∷ [])
      ∙ sym (map_push (λ p. p.0) (take i gs) (get_or gs i g))
      ∙ sym (ap keys_of (take_more gs i g in_gs))

first_by_keys : {A : Type 0} (test : List ℕ → Bool) (fs : List (Pair A)) (i : ℕ) → position_from (λ f. test f.0) i fs ≡ position_from test i (keys_of fs)
first_by_keys test [] i = refl
first_by_keys test (f ∷ fs) i = ap (λ o. cond (test f.0) (Some i) o) (first_by_keys test fs (i + 1))

place_by_keys : {A : Type 0} (key : List ℕ) (fs : List (Pair A)) → place key fs ≡ position_from (bytes_eq key) 0 (keys_of fs)
place_by_keys key fs = position_from-zero (λ f. bytes_eq key f.0) fs ∙ first_by_keys (bytes_eq key) fs 0

-- a field of a key has a value under it
has_own : {A : Type 0} (fs : List (Pair A)) (i : ℕ) (f : Pair A) → i < length fs → is_some (field_value fs (get_or fs i f).0) ≡ true
has_own [] i f within = absurd (omega arith)
has_own (g ∷ fs) zero f within = ap (λ b. is_some (cond b (Some g.1) (field_value fs g.0))) ((bytes_eq-Decides g.0 g.0).1 refl)
has_own (g ∷ fs) (suc i) f within = either (bytes_eq (get_or fs i f).0 g.0) (has_own fs i f (omega arith))
  where
    either : (b : Bool) → is_some (field_value fs (get_or fs i f).0) ≡ true → is_some (cond b (Some g.1) (field_value fs (get_or fs i f).0)) ≡ true
    either true rest = refl
    either false rest = rest

module _ {A : Type 0} (E : A → A → Bool) (fs gs : List (Pair A)) where
  abbrev Agrees : Pair A → Bool
  Agrees f = agree_under E fs gs f.0

  -- of fields with the same keys, a field that is the first of its key has the value that stands at its place
  pub across : (i : ℕ) (f g : Pair A) → keys_of fs ≡ keys_of gs → place f.0 fs ≡ Some i → field_value gs f.0 ≡ Some (get_or gs i g).1
  across i f g same first = value_at f.0 gs i g (place_by_keys f.0 gs ∙ sym (ap (position_from (bytes_eq f.0) 0) same) ∙ sym (place_by_keys f.0 fs) ∙ first)

  module _ (i : ℕ) (f : Pair A) (within : i < length fs) (is : f ≡ get_or fs i f) where
    mine : place f.0 fs ≡ Some i → field_value fs f.0 ≡ Some f.1
    mine first = value_at f.0 fs i f first ∙ ap (λ q. Some q.1) (sym is)

    -- the values agree under the key of one more field where its value and the other's under the key are equal, if the field is the first of its key
    pub agrees_next : list_all Agrees (take i fs) ≡ true → (place f.0 fs ≡ Some i → agree E (Some f.1) (field_value gs f.0) ≡ true) → Agrees f ≡ true
    agrees_next before here = at (place f.0 fs) refl
      where
        own : is_some (place f.0 fs) ≡ true
        own = there_if_value f.0 fs ∙ ap (λ p. is_some (field_value fs p.0)) is ∙ has_own fs i f within

        earlier : (j : ℕ) → j < i → bytes_eq f.0 (get_or fs j f).0 ≡ true → Agrees f ≡ true
        earlier j less same =
            ap (agree_under E fs gs) ((bytes_eq-Decides f.0 (get_or fs j f).0).0 same)
            ∙ ap Agrees (sym (get_or-take i fs j f less))
            ∙ AllPass-from_list_all Agrees (take i fs) before j f (omega (arith, length-take i fs))

        at : (o : Option ℕ) → place f.0 fs ≡ o → Agrees f ≡ true
        at None e = absurd (cc (own, e))
        at (Some j) e =
            let p = position-Some (λ q. bytes_eq f.0 q.0) fs j f e in
            elim (cases_order j i) as (λ w. Agrees f ≡ true) [
              | inl same ↦
                  let first = e ∙ ap Some same in
                  (λ k. agree E (mine first k) (field_value gs f.0)) ∙ here first
              | inr apart ↦ elim apart as (λ w. Agrees f ≡ true) [
                | inl less ↦ earlier j less p.1
                | inr more ↦
                    let never : bytes_eq f.0 (get_or fs i f).0 ≡ false = p.2 i more in
                    let always : bytes_eq f.0 (get_or fs i f).0 ≡ true = (bytes_eq-Decides f.0 (get_or fs i f).0).1 (ap (λ q. q.0) is) in
                    absurd (cc (never, always))
              ]
            ]

    pub more_agree : list_all Agrees (take i fs) ≡ true → (place f.0 fs ≡ Some i → agree E (Some f.1) (field_value gs f.0) ≡ true) → list_all Agrees (take (i + 1) fs) ≡ true
    more_agree before here =
        let this : Agrees (get_or fs i f) ≡ true = ap Agrees (sym is) ∙ agrees_next before here in
        ap (list_all Agrees) (take_more fs i f within) ∙ list_all-append Agrees (take i fs) (get_or fs i f ∷ []) ∙ (λ k. before k && (this k && true))

    -- one that is the first of its key, and whose value is not equal to the other's under the key
    pub apart_here : place f.0 fs ≡ Some i → agree E (Some f.1) (field_value gs f.0) ≡ false → fields_equal E fs gs ≡ false
    apart_here first unlike =
        fields_apart E fs gs (list_all_at Agrees fs i f within (ap Agrees (sym is) ∙ (λ k. agree E (mine first k) (field_value gs f.0)) ∙ unlike))

  pub all_agree : (i : ℕ) → list_all Agrees (take i fs) ≡ true → length fs ≤ i → list_all Agrees fs ≡ true
  all_agree i so_far past = ap (list_all Agrees) (sym (take_all i fs past)) ∙ so_far

  -- all values agree under the keys of the first, which the second has too
  pub in_order : keys_of fs ≡ keys_of gs → list_all Agrees fs ≡ true → fields_equal E fs gs ≡ true
  in_order same all =
      let mine = sym (keys_by_fields (agree_under E fs gs) fs) ∙ all in
      let theirs = ap (list_all (agree_under E fs gs)) (sym same) ∙ mine in
      λ k. mine k && theirs k
