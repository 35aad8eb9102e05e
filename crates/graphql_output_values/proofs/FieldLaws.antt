-- The laws of objects.
use Rattle.std.proofs.Common.{◌≡◌, ◌≤◌, ℕ, suc, Bool, true, false, cond, ◌||◌, List, [], ◌∷◌, length, Option, Some, None, is_some, ap, sym, subst, refl, ◌∙◌, arith}
use Rattle.std.proofs.lemmas.List.{length-map}
use Rattle.std.specs.List.{Contains, IsDistinct, AllByRecursion, list_any}
use Rattle.std.specs.Map.{lookup, keys_of}
use Rattle.std.specs.Str.{bytes_eq}
use Rattle.std.specs.Cmp.Lexicographic.{nat_list_eq_equiv}
use Rattle.std.proofs.lemmas.List.Sorted.{Contains-permutation, IsPermutation-map, IsPermutation-sym}
use Rattle.std.proofs.lemmas.Map.Keys.{IsDistinct-cons, IsDistinct-IsPermutation}
use Rattle.std.proofs.lemmas.Map.Steps.{length-le_from_keys}
use Rattle.std.proofs.lemmas.Map.Views.{Contains-from_lookup, lookup-from_Contains}
use Rattle.std.proofs.lemmas.Slice.Eq.{bytes_eq-Decides}
use Rattle.graphql_output_values.specs.Equality.{agree, agree_under, fields_equal}
use Rattle.graphql_output_values.specs.EqualityLaws.{equal_from_each, each_from_equal}
use Rattle.graphql_output_values.specs.Laws.{StandIn, EqualByFields, EqualInAnyOrder, MadeDistinct}
use Rattle.graphql_output_values.specs.Objects.{Pair, HasDistinctKeys, field_value, with_field, with_fields}
use Rattle.graphql_output_values.proofs.ObjectLemmas.{distinct_after}

exact : (x y : List ℕ) → bytes_eq x y ≡ true → x ≡ y
exact x y = (bytes_eq-Decides x y).0

module _ {A : Type 0} where
  -- a look-up finds what stands in an object of distinct keys, and finds nothing else
  at : (fs : List (Pair A)) (k : List ℕ) (x : A) → HasDistinctKeys fs → Contains fs (k, x) → field_value fs k ≡ Some x
  at fs k x distinct stands = lookup-from_Contains nat_list_eq_equiv k x fs distinct stands

  stands_at : (fs : List (Pair A)) (k : List ℕ) (x : A) → field_value fs k ≡ Some x → Contains fs (k, x)
  stands_at fs k x e = Contains-from_lookup exact k x fs e

  found : (t : List ℕ → Bool) (fs : List (Pair A)) → list_any t (keys_of fs) ≡ true → is_some (lookup t fs) ≡ true
  found t [] any = any
  found t (f ∷ fs) any = either (t f.0) any (found t fs)
    where
      either : (b : Bool) → (b || list_any t (keys_of fs)) ≡ true → (list_any t (keys_of fs) ≡ true → is_some (lookup t fs) ≡ true) → is_some (cond b (Some f.1) (lookup t fs)) ≡ true
      either true h rest = refl
      either false h rest = rest h

  apart : (k : List ℕ) (fs : List (Pair A)) → field_value fs k ≡ None → AllByRecursion (λ y. bytes_eq k y ≡ false) (keys_of fs)
  apart k [] e = tt
  apart k (f ∷ fs) e = either (bytes_eq k f.0) refl e (apart k fs)
    where
      either : (b : Bool) → bytes_eq k f.0 ≡ b → cond b (Some f.1) (field_value fs k) ≡ None → (field_value fs k ≡ None → AllByRecursion (λ y. bytes_eq k y ≡ false) (keys_of fs)) → (bytes_eq k f.0 ≡ false) × AllByRecursion (λ y. bytes_eq k y ≡ false) (keys_of fs)
      either true is h rest = absurd (cc)
      either false is h rest = (is, rest h)

  -- an object whose keys another has all has no more fields than it
  no_more : (fs gs : List (Pair A)) → HasDistinctKeys fs → ((k : List ℕ) → is_some (field_value fs k) ≡ true → is_some (field_value gs k) ≡ true) → length fs ≤ length gs
  no_more fs gs distinct has =
      let keys = length-le_from_keys nat_list_eq_equiv (keys_of fs) gs distinct (λ q any. has q (found (bytes_eq q) fs any)) in
      subst (λ n. n ≤ length gs) (length-map fs (λ e. e.0)) keys

  module _ (E : A → A → Bool) (fs gs : List (Pair A)) where
    right : (o p : Option A) → agree E o p ≡ true → is_some o ≡ true → is_some p ≡ true
    right None p h s = absurd (cc)
    right (Some x) None h s = absurd (cc)
    right (Some x) (Some y) h s = refl

    left : (o p : Option A) → agree E o p ≡ true → is_some p ≡ true → is_some o ≡ true
    left None None h s = s
    left None (Some y) h s = absurd (cc)
    left (Some x) p h s = refl

    stand : HasDistinctKeys fs → fields_equal E fs gs ≡ true → StandIn E fs gs
    stand distinct equal key x stands = there (field_value gs key) refl (ap (λ o. agree E o (field_value gs key)) (sym (at fs key x distinct stands)) ∙ each_from_equal E fs gs equal key)
      where
        there : (o : Option A) → field_value gs key ≡ o → agree E (Some x) (field_value gs key) ≡ true → (y : A) × Contains gs (key, y) × (E x y ≡ true)
        there None e h = let never : agree E (Some x) None ≡ true = ap (agree E (Some x)) (sym e) ∙ h in absurd (cc)
        there (Some y) e h = (y, stands_at gs key y e, ap (agree E (Some x)) (sym e) ∙ h)

    -- a key that the first lacks is none of the second's either, where they have equally many fields
    none_more : HasDistinctKeys fs → HasDistinctKeys gs → (length fs ≡ length gs) → StandIn E fs gs → (k : List ℕ) (y : A) → field_value fs k ≡ None → field_value gs k ≡ Some y → ⊥
    none_more distinct others_distinct same stands k y lacks has =
        let more : suc (length (keys_of fs)) ≤ length gs = length-le_from_keys nat_list_eq_equiv (k ∷ keys_of fs) gs (IsDistinct-cons bytes_eq k (keys_of fs) (apart k fs lacks) distinct) (λ q any. has_key q (bytes_eq q k) refl any) in
        omega (arith, length-map fs (λ (e : Pair A). e.0))
      where
        has_own : (q : List ℕ) (o : Option A) → field_value fs q ≡ o → is_some o ≡ true → is_some (field_value gs q) ≡ true
        has_own q None e s = absurd (cc)
        has_own q (Some x) e s = let other = stands q x (stands_at fs q x e) in ap is_some (at gs q other.0 others_distinct other.1)

        has_key : (q : List ℕ) (b : Bool) → bytes_eq q k ≡ b → (b || list_any (bytes_eq q) (keys_of fs)) ≡ true → is_some (field_value gs q) ≡ true
        has_key q true e any = ap (λ z. is_some (field_value gs z)) (exact q k e) ∙ ap is_some has
        has_key q false e any = has_own q (field_value fs q) refl (found (bytes_eq q) fs any)

    pub by_fields : EqualByFields E fs gs
    by_fields distinct others_distinct = (
      λ equal.
          let each = each_from_equal E fs gs equal in
          let less = no_more fs gs distinct (λ k s. right (field_value fs k) (field_value gs k) (each k) s) in
          let more = no_more gs fs others_distinct (λ k s. left (field_value fs k) (field_value gs k) (each k) s) in
          (omega arith, stand distinct equal),
      λ facts. equal_from_each E fs gs (λ k. either facts k (field_value fs k) (field_value gs k) refl refl),
    )
      where
        either : (length fs ≡ length gs) × StandIn E fs gs → (k : List ℕ) (o p : Option A) → field_value fs k ≡ o → field_value gs k ≡ p → agree_under E fs gs k ≡ true
        either facts k None None e e' = λ i. agree E (e i) (e' i)
        either facts k None (Some y) e e' = absurd (none_more distinct others_distinct facts.0 facts.1 k y e e')
        either facts k (Some x) p e e' =
            let other = facts.1 k x (stands_at fs k x e) in
            let theirs = at gs k other.0 others_distinct other.1 in
            (λ i. agree E (e i) (theirs i)) ∙ other.2

    pub in_any_order : ((x : A) → E x x ≡ true) → EqualInAnyOrder E fs gs
    in_any_order itself distinct permuted = equal_from_each E fs gs (λ k. either k (field_value fs k) (field_value gs k) refl refl)
      where
        others_distinct : HasDistinctKeys gs
        others_distinct = IsDistinct-IsPermutation bytes_eq nat_list_eq_equiv.symm (keys_of fs) (keys_of gs) (IsPermutation-map (λ (e : Pair A). e.0) fs gs permuted) distinct

        either : (k : List ℕ) (o p : Option A) → field_value fs k ≡ o → field_value gs k ≡ p → agree_under E fs gs k ≡ true
        either k None None e e' = λ i. agree E (e i) (e' i)
        either k None (Some y) e e' =
            let here = at fs k y distinct (Contains-permutation gs fs (k, y) (IsPermutation-sym fs gs permuted) (stands_at gs k y e')) in
            let never : None ≡ Some y = sym e ∙ here in absurd (cc)
        either k (Some x) p e e' =
            let theirs = at gs k x others_distinct (Contains-permutation fs gs (k, x) permuted (stands_at fs k x e)) in
            (λ i. agree E (e i) (theirs i)) ∙ itself x

no_field : (A : Type 0) → HasDistinctKeys {A = A} []
unfolding IsDistinct
no_field A = tt

pub made_distinct : {A : Type 0} → MadeDistinct A
made_distinct {A} pairs = onto [] (no_field A) pairs
  where
    onto : (done : List (Pair A)) → HasDistinctKeys done → (ps : List (Pair A)) → HasDistinctKeys (with_fields done ps)
    onto done distinct [] = distinct
    onto done distinct (p ∷ ps) = onto (with_field done p.0 p.1) (distinct_after p.0 p.1 done distinct) ps
