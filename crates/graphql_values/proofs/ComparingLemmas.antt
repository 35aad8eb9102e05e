-- What is left to compare, once more waits or something was compared.
use Rattle.std.proofs.Common.{◌≡◌, ◌↔◌, ℕ, ◌+◌, ◌<◌, Bool, true, false, IsTrue, List, [], ◌∷◌, ◌++◌, length, take, get_or, inl, inr, ap, sym, subst, refl, ◌∙◌, arith}
use Rattle.std.specs.Prelude.{Result, Ok, Err, IfOk}
use Rattle.std.specs.List.{All, sum_by}
use Rattle.std.proofs.lemmas.Bool.{false≢true, cases_lt}
use Rattle.std.proofs.lemmas.List.{get_or_append_left, length-append}
use Rattle.std.proofs.lemmas.List.Elements.{All-push, All-head, All-tail}
use Rattle.std.proofs.lemmas.List.Sums.{sum_by_push, sum_by_more}
use Rattle.graphql_values.specs.declared.input_value.InputValue.{InputValue}
use Rattle.graphql_values.specs.Comparing.{Both, AllSame, LeavesSame, left_count}
use Rattle.graphql_values.specs.Counts.{value_count}
use Rattle.graphql_values.proofs.SameValueLemmas.{Same, get_or_any, same_at}

pub ok_maps : {T E : Type 0} (P Q : T → Type 0) (r : Result T E) → ((x : T) → P x → Q x) → IfOk r P → IfOk r Q
ok_maps P Q (Ok x) f h = f x h
ok_maps P Q (Err e) f h = h

last_holds : {X : Type 0} (P : X → Type 0) (xs : List X) (y : X) → All P (xs ++ y ∷ []) → P y
last_holds P [] y all = All-head P y [] all
last_holds P (x ∷ xs) y all = last_holds P xs y (All-tail P x (xs ++ y ∷ []) all)

others_hold : {X : Type 0} (P : X → Type 0) (xs : List X) (y : X) → All P (xs ++ y ∷ []) → All P xs
others_hold P xs y all k d within = subst P (get_or_append_left xs (y ∷ []) d k within) (all k d (omega (arith, within, length-append xs (y ∷ []))))

module _ {S : Type 0} (eq : S → S → Bool) where
  abbrev pub AreSame : Both S → Type 0
  AreSame both = Same eq both.0.now both.1.now

  -- two values more
  pub all_with : (old new : List (Both S)) (both : Both S) → new ≡ old ++ both ∷ [] → AllSame eq old → AreSame both → AllSame eq new
  all_with old new both is all same = subst (AllSame eq) (sym is) (All-push AreSame old both all same)

  pub all_split : (old new : List (Both S)) (both : Both S) → new ≡ old ++ both ∷ [] → AllSame eq new → AllSame eq old × AreSame both
  all_split old new both is all = let told : AllSame eq (old ++ both ∷ []) = subst (AllSame eq) is all in (others_hold AreSame old both told, last_holds AreSame old both told)

  -- where nothing more is left to compare
  pub decided : (W : Type 0) (old : List (Both S)) (stands : Bool) → (IsTrue stands ↔ W) → LeavesSame eq W old old stands
  decided W old stands h = (λ t. (t.1, h.0 t.0), λ w. (h.1 w.1, w.0))

  pub fails : (W : Type 0) (old new : List (Both S)) → (W → ⊥) → LeavesSame eq W old new false
  fails W old new differs = (λ t. absurd (false≢true t.0), λ w. absurd (differs w.1))

  pub leaves_as : (V W : Type 0) (old new : List (Both S)) (stands : Bool) → (V → W) → (W → V) → LeavesSame eq V old new stands → LeavesSame eq W old new stands
  leaves_as V W old new stands there back h = (λ t. let was = h.0 t in (was.0, there was.1), λ w. h.1 (w.0, back w.1))

  -- two values that waited were compared
  pub compared :
      (W : Type 0) (was rest new : List (Both S)) (both : Both S) (stands : Bool) → was ≡ rest ++ both ∷ [] → LeavesSame eq (AreSame both) rest new stands → (AllSame eq was ↔ W)
      → ((IsTrue stands × AllSame eq new) ↔ W)
  compared W was rest new both stands is h before = (
    λ t. let both_of = h.0 t in before.0 (all_with rest was both is both_of.0 both_of.1),
    λ w. h.1 (all_split rest was both is (before.1 w)),
  )

  -- parts that wait to be compared two by two: `W` says that all of them are the same, `V` that those so far are
  abbrev pub SoFar : Type 0 → Type 0 → List (Both S) → List (Both S) → Type 0
  SoFar V W old new = (AllSame eq new → AllSame eq old × V) × (AllSame eq old × W → AllSame eq new)

  pub more_wait : (V V2 W : Type 0) (old mid new : List (Both S)) (both : Both S) → new ≡ mid ++ both ∷ [] → (V → AreSame both → V2) → (W → AreSame both) → SoFar V W old mid → SoFar V2 W old new
  more_wait V V2 W old mid new both is there back h = (
    λ all.
        let parts = all_split mid new both is all in
        let before = h.0 parts.0 in
        (before.0, there before.1 parts.1),
    λ w. all_with mid new both is (h.1 w) (back w.1),
  )

  pub all_wait : (V W : Type 0) (old new : List (Both S)) → (V → W) → SoFar V W old new → LeavesSame eq W old new true
  all_wait V W old new there h = (λ t. let before = h.0 t.1 in (before.0, there before.1), λ w. (refl, h.1 w))

  -- the first parts of two lists are the same, place by place
  module _ {X : Type 0} (part : X → InputValue S) (ls rs : List X) where
    abbrev pub SameAt : ℕ → Type 0
    SameAt j = (x y : X) → Same eq (part (get_or ls j x)) (part (get_or rs j y))

    abbrev pub FirstSame : ℕ → Type 0
    FirstSame k = (j : ℕ) → j < k → SameAt j

    pub first_more : (k : ℕ) (x y : X) → k < length ls → k < length rs → x ≡ get_or ls k x → y ≡ get_or rs k y → FirstSame k → Same eq (part x) (part y) → FirstSame (k + 1)
    first_more k x y within beside is_x is_y before here j below a b = elim (cases_lt j k) as (λ _. Same eq (part (get_or ls j a)) (part (get_or rs j b))) [
      | inl earlier ↦ before j earlier a b
      | inr later ↦
          let at : k ≡ j = omega (arith, below, later) in
          subst (λ n. Same eq (part (get_or ls n a)) (part (get_or rs n b))) at
          (subst (λ z. Same eq (part z) (part (get_or rs k b))) (is_x ∙ get_or_any ls k x a within)
          (subst (λ z. Same eq (part x) (part z)) (is_y ∙ get_or_any rs k y b beside) here))
    ]

    -- one more part of each waits
    pub part_more :
        (W : Type 0) (old mid new : List (Both S)) (both : Both S) (k : ℕ) (x y : X) → new ≡ mid ++ both ∷ [] → both.0.now ≡ part x → both.1.now ≡ part y → k < length ls → k < length rs → x ≡ get_or ls k x → y ≡ get_or rs k y
        → (W → Same eq (part x) (part y)) → SoFar (FirstSame k) W old mid → SoFar (FirstSame (k + 1)) W old new
    part_more W old mid new both k x y is left right within beside is_x is_y back =
        more_wait (FirstSame k) (FirstSame (k + 1)) W old mid new both is
        (λ before same. first_more k x y within beside is_x is_y before (same_at eq (part x) (part y) both.0.now both.1.now (sym left) (sym right) same))
        (λ w. same_at eq both.0.now both.1.now (part x) (part y) left right (back w))

module _ {S X : Type 0} (part : X → InputValue S) (xs : List X) where
  pub count_more :
      (old mid new : List (Both S)) (both : Both S) (k : ℕ) (x : X) → new ≡ mid ++ both ∷ [] → both.0.now ≡ part x → k < length xs → x ≡ get_or xs k x → left_count mid ≡ left_count old + sum_by (λ y. value_count (part y)) (take k xs)
      → left_count new ≡ left_count old + sum_by (λ y. value_count (part y)) (take (k + 1) xs)
  count_more old mid new both k x is same within is_x before =
      let pushed : left_count new ≡ left_count mid + value_count both.0.now = ap left_count is ∙ sum_by_push (λ (b : Both S). value_count b.0.now) mid both in
      omega (arith, pushed, before, ap value_count same, ap (λ y. value_count (part y)) is_x, sum_by_more (λ y. value_count (part y)) xs k x within)
