-- Laws of the equality of lists of items and of fields, from those of the items' and the values'
-- equality.
use Rattle.std.proofs.Common.{◌≡◌, Bool, true, false, cond, ◌&&◌, List, [], ◌∷◌, ℕ, suc, Option}
use Rattle.std.proofs.Common.{Some, None, is_some, ap, sym, subst, refl, ◌∙◌, arith}
use Rattle.std.specs.List.{All, list_all}
use Rattle.std.specs.Cmp.{both_ways}
use Rattle.std.specs.Map.{lookup, keys_of}
use Rattle.std.specs.Str.{bytes_eq}
use Rattle.std.proofs.lemmas.Slice.Eq.{bytes_eq-Decides}
use Rattle.graphql_output_values.specs.Equality.{agree, agree_under, fields_equal, items_equal}
use Rattle.graphql_output_values.specs.Objects.{Pair, field_value}

pub and_left : (a b : Bool) → (a && b) ≡ true → a ≡ true
and_left true b h = refl
and_left false b h = h

pub and_right : (a b : Bool) → (a && b) ≡ true → b ≡ true
and_right true b h = h
and_right false b h = absurd (cc)

all_from_each : (test : List ℕ → Bool) → ((k : List ℕ) → test k ≡ true) → (ks : List (List ℕ))
    → list_all test ks ≡ true
all_from_each test each [] = refl
all_from_each test each (k ∷ ks) = λ i. each k i && all_from_each test each ks i

-- a test that holds of each key holds of a key that a look-up finds
pub at_key : {A : Type 0} (test : List ℕ → Bool) (fs : List (Pair A)) (k : List ℕ)
    → list_all test (keys_of fs) ≡ true → is_some (field_value fs k) ≡ true → test k ≡ true
at_key test [] k all found = absurd (cc)
at_key test (f ∷ fs) k all found =
    either (bytes_eq k f.0) refl found (at_key test fs k (and_right _ _ all))
  where
    either : (b : Bool) → bytes_eq k f.0 ≡ b → is_some (cond b (Some f.1) (field_value fs k)) ≡ true
        → (is_some (field_value fs k) ≡ true → test k ≡ true) → test k ≡ true
    either true is s rest = ap test ((bytes_eq-Decides k f.0).0 is) ∙ and_left _ _ all
    either false is s rest = rest s

-- the value that a look-up finds is one of the fields'
value_holds : {A : Type 0} (P : A → Type 0) (t : List ℕ → Bool) (fs : List (Pair A))
    → All (λ (p : Pair A). P p.1) fs → (x : A) → lookup t fs ≡ Some x → P x
value_holds P t [] all x is = absurd (cc)
value_holds P t (f ∷ fs) all x is =
    either (t f.0) is (value_holds P t fs (λ k d h. all (suc k) d (omega arith)) x)
  where
    either : (b : Bool) → cond b (Some f.1) (lookup t fs) ≡ Some x → (lookup t fs ≡ Some x → P x)
        → P x
    either true e rest = let same : f.1 ≡ x = cc in subst P same (all 0 f (omega arith))
    either false e rest = rest e

module _ {A : Type 0} (E : A → A → Bool) where
  pub equal_from_each : (fs gs : List (Pair A)) → ((k : List ℕ) → agree_under E fs gs k ≡ true)
      → fields_equal E fs gs ≡ true
  equal_from_each fs gs each = λ i. all_from_each (agree_under E fs gs) each (keys_of fs) i
      && all_from_each (agree_under E fs gs) each (keys_of gs) i

  pub each_from_equal : (fs gs : List (Pair A)) → fields_equal E fs gs ≡ true → (k : List ℕ)
      → agree_under E fs gs k ≡ true
  each_from_equal fs gs h k = either (field_value fs k) (field_value gs k) refl refl
    where
      either : (o p : Option A) → field_value fs k ≡ o → field_value gs k ≡ p
          → agree_under E fs gs k ≡ true
      either None None e e' = λ i. agree E (e i) (e' i)
      either None (Some y) e e' =
          at_key (agree_under E fs gs) gs k (and_right _ _ h) (ap is_some e')
      either (Some x) p e e' = at_key (agree_under E fs gs) fs k (and_left _ _ h) (ap is_some e)

  abbrev pub Flips : A → Type 0
  Flips x = (y : A) → E x y ≡ E y x

  abbrev pub Carries : A → Type 0
  Carries x = (y z : A) → E x y ≡ true → E y z ≡ true → E x z ≡ true

  agree_symm : (o p : Option A) → ((x : A) → o ≡ Some x → Flips x) → agree E o p ≡ agree E p o
  agree_symm None None flips = refl
  agree_symm None (Some y) flips = refl
  agree_symm (Some x) None flips = refl
  agree_symm (Some x) (Some y) flips = flips x refl y

  pub fields_symm : (fs gs : List (Pair A)) → All (λ (p : Pair A). Flips p.1) fs
      → fields_equal E fs gs ≡ fields_equal E gs fs
  fields_symm fs gs all =
      let at : (k : List ℕ)
      → agree_under E fs gs k
      ≡ agree_under E gs fs k = λ k. agree_symm
      (field_value fs k) (field_value gs k) (value_holds Flips (bytes_eq k) fs all) in
      both_ways _ _ (λ h. equal_from_each gs fs (λ k. sym (at k) ∙ each_from_equal fs gs h k))
      (λ h. equal_from_each fs gs (λ k. at k ∙ each_from_equal gs fs h k))

  agree_trans : (o p q : Option A) → ((x : A) → o ≡ Some x → Carries x) → agree E o p ≡ true
      → agree E p q ≡ true → agree E o q ≡ true
  agree_trans None None q carries h k = k
  agree_trans None (Some y) q carries h k = absurd (cc)
  agree_trans (Some x) None q carries h k = absurd (cc)
  agree_trans (Some x) (Some y) None carries h k = absurd (cc)
  agree_trans (Some x) (Some y) (Some z) carries h k = carries x refl y z h k

  pub fields_trans : (fs gs hs : List (Pair A)) → All (λ (p : Pair A). Carries p.1) fs
      → fields_equal E fs gs ≡ true → fields_equal E gs hs ≡ true → fields_equal E fs hs ≡ true
  fields_trans fs gs hs all a b =
      equal_from_each fs hs (λ k. agree_trans (field_value fs k) (field_value gs k)
      (field_value hs k) (value_holds Carries (bytes_eq k) fs all) (each_from_equal fs gs a k)
      (each_from_equal gs hs b k))

  pub items_symm : (xs ys : List A) → All Flips xs → items_equal E xs ys ≡ items_equal E ys xs
  items_symm [] [] all = refl
  items_symm [] (y ∷ ys) all = refl
  items_symm (x ∷ xs) [] all = refl
  items_symm (x ∷ xs) (y ∷ ys) all =
      λ i. all 0 x (omega arith) y i && items_symm xs ys (λ k d h. all (suc k) d (omega arith)) i

  pub items_trans : (xs ys zs : List A) → All Carries xs → items_equal E xs ys ≡ true
      → items_equal E ys zs ≡ true → items_equal E xs zs ≡ true
  items_trans [] [] zs all a b = b
  items_trans [] (y ∷ ys) zs all a b = absurd (cc)
  items_trans (x ∷ xs) [] zs all a b = absurd (cc)
  items_trans (x ∷ xs) (y ∷ ys) [] all a b = absurd (cc)
  items_trans (x ∷ xs) (y ∷ ys) (z ∷ zs) all a b =
      λ i. all 0 x (omega arith) y z (and_left _ _ a) (and_left _ _ b) i
      && items_trans xs ys zs
      (λ k d h. all (suc k) d (omega arith)) (and_right _ _ a) (and_right _ _ b) i

  abbrev pub IsItself : A → Type 0
  IsItself x = E x x ≡ true

  pub fields_refl : (fs : List (Pair A)) → All (λ (p : Pair A). IsItself p.1) fs
      → fields_equal E fs fs ≡ true
  fields_refl fs all = equal_from_each fs fs (λ k. either k (field_value fs k) refl)
    where
      either : (k : List ℕ) (o : Option A) → field_value fs k ≡ o → agree_under E fs fs k ≡ true
      either k None e = λ i. agree E (e i) (e i)
      either k (Some x) e =
          (λ i. agree E (e i) (e i)) ∙ value_holds IsItself (bytes_eq k) fs all x e

  pub items_refl : (xs : List A) → All IsItself xs → items_equal E xs xs ≡ true
  items_refl [] all = refl
  items_refl (x ∷ xs) all =
      λ i. all 0 x (omega arith) i && items_refl xs (λ k d h. all (suc k) d (omega arith)) i
