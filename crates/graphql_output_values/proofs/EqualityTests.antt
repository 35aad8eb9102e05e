-- What a walk over items or fields finds of their equality.
use Rattle.std.proofs.Common.{◌≡◌, ◌<◌, Bool, true, false, cond, ◌&&◌, List, [], ◌∷◌, ℕ, zero, suc, length, get_or, Option, Some, None, is_some, take, ap, sym, refl, ◌∙◌, ◌+◌, add-one, arith}
use Rattle.std.proofs.Math.Bool.{and-true, and_assoc}
use Rattle.std.specs.Cmp.{both_ways}
use Rattle.std.specs.List.{list_all}
use Rattle.std.specs.Map.{keys_of}
use Rattle.std.specs.Str.{bytes_eq}
use Rattle.std.proofs.lemmas.Slice.Eq.{bytes_eq-Decides}
use Rattle.graphql_output_values.specs.Equality.{agree, agree_under, fields_equal, items_equal}
use Rattle.graphql_output_values.specs.Objects.{Pair, field_value}
use Rattle.graphql_output_values.specs.EqualityLaws.{and_left, and_right, at_key, each_from_equal}

and_false : (b : Bool) → (b && false) ≡ false
and_false true = refl
and_false false = refl

module _ {A : Type 0} (E : A → A → Bool) where
  next_items : (xs ys : List A) (i : ℕ) (d e : A) → i < length xs → i < length ys → items_equal E (take (suc i) xs) (take (suc i) ys) ≡ (items_equal E (take i xs) (take i ys) && E (get_or xs i d) (get_or ys i e))
  next_items [] ys i d e in_xs in_ys = absurd (omega arith)
  next_items (x ∷ xs) [] i d e in_xs in_ys = absurd (omega arith)
  next_items (x ∷ xs) (y ∷ ys) zero d e in_xs in_ys = and-true (E x y)
  next_items (x ∷ xs) (y ∷ ys) (suc i) d e in_xs in_ys =
      ap (λ b. E x y && b) (next_items xs ys i d e (omega arith) (omega arith)) ∙ sym (and_assoc (E x y) (items_equal E (take i xs) (take i ys)) (E (get_or xs i d) (get_or ys i e)))

  -- one more item of each
  pub items_more : (xs ys : List A) (i : ℕ) (d e : A) → i < length xs → i < length ys → items_equal E (take i xs) (take i ys) ≡ true → E (get_or xs i d) (get_or ys i e) ≡ true → items_equal E (take (i + 1) xs) (take (i + 1) ys) ≡ true
  items_more xs ys i d e in_xs in_ys before here =
      ap (λ n. items_equal E (take n xs) (take n ys)) (add-one i) ∙ next_items xs ys i d e in_xs in_ys ∙ (λ j. before j && here j)

  pub items_apart : (xs ys : List A) (k : ℕ) (d e : A) → k < length xs → E (get_or xs k d) (get_or ys k e) ≡ false → items_equal E xs ys ≡ false
  items_apart [] ys k d e within apart = absurd (omega arith)
  items_apart (x ∷ xs) [] k d e within apart = refl
  items_apart (x ∷ xs) (y ∷ ys) zero d e within apart = ap (λ b. b && items_equal E xs ys) apart
  items_apart (x ∷ xs) (y ∷ ys) (suc k) d e within apart = ap (λ b. E x y && b) (items_apart xs ys k d e (omega arith) apart) ∙ and_false (E x y)

  pub items_unlike : (xs ys : List A) → (length xs ≡ length ys → ⊥) → items_equal E xs ys ≡ false
  items_unlike [] [] unlike = absurd (unlike refl)
  items_unlike [] (y ∷ ys) unlike = refl
  items_unlike (x ∷ xs) [] unlike = refl
  items_unlike (x ∷ xs) (y ∷ ys) unlike = ap (λ b. E x y && b) (items_unlike xs ys (λ e. unlike (ap suc e))) ∙ and_false (E x y)

  some_both : (o p : Option A) → agree E o p ≡ true → is_some p ≡ true → is_some o ≡ true
  some_both None None h s = s
  some_both None (Some y) h s = absurd (cc)
  some_both (Some x) p h s = refl

all_more : (t u : List ℕ → Bool) → ((k : List ℕ) → t k ≡ true → u k ≡ true) → (ks : List (List ℕ)) → list_all t ks ≡ true → list_all u ks ≡ true
all_more t u more [] all = refl
all_more t u more (k ∷ ks) all = λ i. more k (and_left _ _ all) i && all_more t u more ks (and_right _ _ all) i

-- an object has each of its keys
own_keys : {A : Type 0} (fs : List (Pair A)) → list_all (λ k. is_some (field_value fs k)) (keys_of fs) ≡ true
own_keys [] = refl
own_keys (f ∷ fs) =
    let first : is_some (cond (bytes_eq f.0 f.0) (Some f.1) (field_value fs f.0)) ≡ true = ap (λ b. is_some (cond b (Some f.1) (field_value fs f.0))) ((bytes_eq-Decides f.0 f.0).1 refl) in
    λ i. first i && all_more (λ k. is_some (field_value fs k)) (λ k. is_some (field_value (f ∷ fs) k)) (λ k. later (bytes_eq k f.0) k) (keys_of fs) (own_keys fs) i
  where
    later : (b : Bool) (k : List ℕ) → is_some (field_value fs k) ≡ true → is_some (cond b (Some f.1) (field_value fs k)) ≡ true
    later true k s = refl
    later false k s = s

-- a test of each field's key
pub keys_by_fields : {A : Type 0} (test : List ℕ → Bool) (fs : List (Pair A)) → list_all (λ (f : Pair A). test f.0) fs ≡ list_all test (keys_of fs)
keys_by_fields test [] = refl
keys_by_fields test (f ∷ fs) = ap (λ b. test f.0 && b) (keys_by_fields test fs)

module _ {A : Type 0} (E : A → A → Bool) (fs gs : List (Pair A)) where
  -- where the values under the keys of the first are equal, it is left to see that it has the keys of the second
  pub has_others : list_all (λ f. agree_under E fs gs f.0) fs ≡ true → list_all (λ g. is_some (field_value fs g.0)) gs ≡ fields_equal E fs gs
  has_others each =
      let all = sym (keys_by_fields (agree_under E fs gs) fs) ∙ each in
      keys_by_fields (λ k. is_some (field_value fs k)) gs ∙ both_ways _ _
      (λ has. λ i. all i && all_more (λ k. is_some (field_value fs k)) (agree_under E fs gs) (λ k s. at_key (agree_under E fs gs) fs k all s) (keys_of gs) has i)
      (λ equal. all_more (λ k. is_some (field_value gs k)) (λ k. is_some (field_value fs k)) (λ k s. some_both E (field_value fs k) (field_value gs k) (each_from_equal E fs gs equal k) s) (keys_of gs) (own_keys gs))

  pub fields_apart : list_all (λ f. agree_under E fs gs f.0) fs ≡ false → fields_equal E fs gs ≡ false
  fields_apart apart = ap (λ b. b && list_all (agree_under E fs gs) (keys_of gs)) (sym (keys_by_fields (agree_under E fs gs) fs) ∙ apart)
