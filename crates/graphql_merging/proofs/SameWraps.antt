-- Wraps, one by one.
use Rattle.std.proofs.Common.{◌≡◌, refl, sym, ◌∙◌, ℕ, zero, suc, ◌<◌, arith, Bool, true, false, not, ◌||◌, List, [], ◌∷◌, map, length, get_or}
use Rattle.std.specs.Bool.{beq}
use Rattle.std.specs.Str.{bytes_eq}
use Rattle.std.proofs.lemmas.Slice.Eq.{bytes_eq-Decides}
use Rattle.graphql_names.specs.declared.type_modifier.TypeModifier.{TypeModifier}
use Rattle.graphql_merging.specs.Merging.{is_list}

pub wraps-at : (xs ys : List TypeModifier) → map is_list xs ≡ map is_list ys → (k : ℕ) (x y : TypeModifier) → k < length xs → is_list (get_or xs k x) ≡ is_list (get_or ys k y)
wraps-at [] ys e k x y h = absurd (omega (arith, h))
wraps-at (x' ∷ xs) [] e k x y h = cc
wraps-at (x' ∷ xs) (y' ∷ ys) e zero x y h = cc
wraps-at (x' ∷ xs) (y' ∷ ys) e (suc k) x y h = let tails : map is_list xs ≡ map is_list ys = cc in wraps-at xs ys tails k x y (omega (arith, h))

pub wraps-from : (xs ys : List TypeModifier) → length xs ≡ length ys
    → ((k : ℕ) (x y : TypeModifier) → k < length xs → is_list (get_or xs k x) ≡ is_list (get_or ys k y)) → map is_list xs ≡ map is_list ys
wraps-from [] [] e h = refl
wraps-from [] (y ∷ ys) e h = absurd (omega (arith, e))
wraps-from (x ∷ xs) [] e h = absurd (omega (arith, e))
wraps-from (x ∷ xs) (y ∷ ys) e h =
    let head : is_list x ≡ is_list y = h 0 x y (omega arith) in
    let tails : map is_list xs ≡ map is_list ys = wraps-from xs ys (omega (arith, e)) (λ k u v w. h (suc k) u v (omega (arith, w))) in
    λ i. head i ∷ tails i

pub wraps-length : (xs ys : List TypeModifier) → map is_list xs ≡ map is_list ys → length xs ≡ length ys
wraps-length [] [] e = refl
wraps-length [] (y ∷ ys) e = cc
wraps-length (x ∷ xs) [] e = cc
wraps-length (x ∷ xs) (y ∷ ys) e = let tails : map is_list xs ≡ map is_list ys = cc in let ih : length xs ≡ length ys = wraps-length xs ys tails in omega (arith, ih)

pub both-false : (p q : Bool) → p ≡ false → q ≡ false → (p || q) ≡ false
both-false false q e f = f
both-false true q e f = cc

pub differ : (p q : Bool) → not (beq p q) ≡ true → p ≡ q → ⊥
differ true true n e = cc
differ true false n e = cc
differ false true n e = cc
differ false false n e = cc

pub same-text : (p q : List ℕ) (r : Bool) → r ≡ not (bytes_eq p q) → r ≡ false → p ≡ q
same-text p q r e f = (bytes_eq-Decides p q).0 (opened (bytes_eq p q) (sym e ∙ f))
  where
    opened : (s : Bool) → not s ≡ false → s ≡ true
    opened true n = refl
    opened false n = cc
