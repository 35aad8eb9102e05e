-- Fields that stand together.
use Rattle.std.proofs.Common.{◌≡◌, refl, sym, ap, ◌∙◌, ℕ, zero, suc, ◌<◌, Bool, true, false, not, ◌&&◌, ◌||◌, List, Option, Some, None, get_or, length, subst}
use Rattle.std.specs.Str.{bytes_eq}
use Rattle.std.proofs.lemmas.Slice.Eq.{bytes_eq-Decides}
use Rattle.std.proofs.lemmas.List.Elements.{Contains-get_or}
use Rattle.graphql_values.specs.Laws.{SameAsItself}
use Rattle.graphql_tree.specs.Arguments.{Argument}
use Rattle.graphql_schema.specs.declared.meta.MetaType.{MetaType}
use Rattle.graphql_schema.specs.Types.{TypeOf}
use Rattle.graphql_schema.specs.Lookups.{own_name, is_object}
use Rattle.graphql_merging.specs.Members.{Member, declared}
use Rattle.graphql_merging.specs.Merging.{is_leaf, IsAmong, SameArguments, SameShapes, Agree, Merges, Merge, Merging, Together, in_set, in_sets, apart}
use Rattle.graphql_merging.specs.Laws.{MergingIsAgreement, DisagreementIsConflict, AgreementIsMutual, MergingIsMutual, AgreesWithItself}

module _ {S : Type 0} (eq : S → S → Bool) (itself : SameAsItself eq) where
  among-self : (xs : List (Argument S)) (k : ℕ) (d : Argument S) → k < length xs → IsAmong eq xs (get_or xs k d)
  among-self xs k d within = let there = Contains-get_or xs k d within in (there.0, get_or xs k d, there.1, there.2, (refl, itself _))

  pub arguments-self : (xs : List (Argument S)) → SameArguments eq xs xs
  arguments-self xs = (among-self xs, among-self xs)

shapes-self : {S C : Type 0} (types : List (MetaType S C)) (t : Option TypeOf) → SameShapes types t t
shapes-self types None = tt
shapes-self types (Some t) = (refl, λ _. refl)

module _ {S C : Type 0} (eq : S → S → Bool) where
  module _ (types : List (MetaType S C)) (ms : List (Member S C)) where
    pub together-merge : Merging eq types ms → (x : Bool) (a b : Member S C) → Together eq types ms x a b → Merge eq types x a b
    together-merge m _ _ _ (in_set a b i j e) = m a b i j e
    together-merge m _ _ _ (in_sets x a b c d t i j e) = λ n. (together-merge m x a b t (suc n)).1 c d i j e

    all-agree : ((x : Bool) (a b : Member S C) → Together eq types ms x a b → Agree eq types x a b)
        → (n : ℕ) (x : Bool) (a b : Member S C) → Together eq types ms x a b → Merges eq types n x a b
    all-agree h zero x a b t = tt
    all-agree h (suc n) x a b t = (h x a b t, λ c d i j e. all-agree h n (x || apart a b) c d (in_sets x a b c d t i j e))

    pub merging-from : ((x : Bool) (a b : Member S C) → Together eq types ms x a b → Agree eq types x a b) → Merging eq types ms
    merging-from h a b i j e n = all-agree h n false a b (in_set a b i j e)

  pub merging-is-agreement : MergingIsAgreement S C eq
  merging-is-agreement types ms = ((λ m x a b t. (together-merge types ms m x a b t 1).0), merging-from types ms)

  pub disagreement-is-conflict : DisagreementIsConflict S C eq
  disagreement-is-conflict types x a b differ merge = differ ((merge 1).0)

  pub apart-self : (a : Member S C) → apart a a ≡ false
  apart-self a = cases (is_object a.parent) (bytes_eq (own_name a.parent) (own_name a.parent)) ((bytes_eq-Decides (own_name a.parent) (own_name a.parent)).1 refl)
    where
      cases : (o r : Bool) → r ≡ true → ((o && o) && not r) ≡ false
      cases true true e = refl
      cases true false e = sym e
      cases false r e = refl

  -- what is asked with the flag is asked without it
  pub agree-under : (types : List (MetaType S C)) (x y : Bool) (a b : Member S C) → (y ≡ true → x ≡ true) → Agree eq types y a b → Agree eq types x a b
  agree-under types x y a b h agree = ((λ e. agree.0 (lower x y (apart a b) h e)), agree.1)
    where
      lower : (x y p : Bool) → (y ≡ true → x ≡ true) → (x || p) ≡ false → (y || p) ≡ false
      lower true y p h e = cc
      lower false true p h e = sym (h refl)
      lower false false p h e = e

  module _ (itself : SameAsItself eq) where
    pub agree-self : (types : List (MetaType S C)) (x : Bool) (a : Member S C) → Agree eq types x a a
    agree-self types x a = ((λ _. (refl, arguments-self eq itself a.head.arguments)), shapes-self types (declared a))

both-eq : (p q : List ℕ) → bytes_eq p q ≡ bytes_eq q p
both-eq p q = cases (bytes_eq p q) (bytes_eq q p) refl refl
  where
    cases : (x y : Bool) → bytes_eq p q ≡ x → bytes_eq q p ≡ y → x ≡ y
    cases true true e f = refl
    cases false false e f = refl
    cases true false e f = sym ((bytes_eq-Decides q p).1 (sym ((bytes_eq-Decides p q).0 e))) ∙ f
    cases false true e f = sym e ∙ (bytes_eq-Decides p q).1 (sym ((bytes_eq-Decides q p).0 f))

swap : (x y z w : Bool) → z ≡ w → ((x && y) && not z) ≡ ((y && x) && not w)
swap true true z w e = ap not e
swap true false z w e = refl
swap false true z w e = refl
swap false false z w e = refl

or-either : (p q : Bool) → (p || q) ≡ (q || p)
or-either true true = refl
or-either true false = refl
or-either false true = refl
or-either false false = refl

module _ {S C : Type 0} where
  apart-either : (a b : Member S C) → apart a b ≡ apart b a
  apart-either a b = swap (is_object a.parent) (is_object b.parent) _ _ (both-eq (own_name a.parent) (own_name b.parent))

  shapes-either : (types : List (MetaType S C)) (s t : Option TypeOf) → SameShapes types s t → SameShapes types t s
  shapes-either types None None h = tt
  shapes-either types None (Some t) h = tt
  shapes-either types (Some s) None h = tt
  shapes-either types (Some s) (Some t) h = (sym h.0, λ e. sym (h.1 (or-either (is_leaf types s.name) (is_leaf types t.name) ∙ e)))

pub agreement-is-mutual : (S C : Type 0) (eq : S → S → Bool) → AgreementIsMutual S C eq
agreement-is-mutual S C eq types x a b h = (
  (λ e. let f = h.0 ((λ i. x || apart-either a b i) ∙ e) in (sym f.0, (f.1.1, f.1.0))),
  shapes-either types (declared a) (declared b) h.1,
)

module _ {S C : Type 0} (eq : S → S → Bool) (types : List (MetaType S C)) where
  merges-either : (n : ℕ) (x : Bool) (a b : Member S C) → Merges eq types n x a b → Merges eq types n x b a
  merges-either zero x a b h = tt
  merges-either (suc n) x a b h = (
    agreement-is-mutual S C eq types x a b h.0,
    λ c d i j e. subst (λ y. Merges eq types n y c d) (ap (λ y. x || y) (apart-either a b)) (merges-either n (x || apart a b) d c (h.1 d c j i (sym e))),
  )

pub merging-is-mutual : (S C : Type 0) (eq : S → S → Bool) → MergingIsMutual S C eq
merging-is-mutual S C eq types x a b h = λ n. merges-either eq types n x a b (h n)

pub agrees-with-itself : (S C : Type 0) (eq : S → S → Bool) → SameAsItself eq → AgreesWithItself S C eq
agrees-with-itself S C eq itself types x a = agree-self eq itself types x a
