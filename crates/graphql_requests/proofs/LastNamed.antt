-- The last item that passes, found from the front.
use Rattle.std.proofs.Common.{◌≡◌, Bool, true, false, List, [], ◌∷◌, Option, Some, None, Result, Ok, Err, reverse, refl, ap, ◌∙◌, sym}
use Rattle.std.specs.Prelude.{if◌then◌else◌}
use Rattle.std.specs.List.{find}
use Rattle.std.specs.Option.{option_map_or, option_or}
use Rattle.std.proofs.lemmas.List.{reverse-append}
use Rattle.std.proofs.lemmas.List.Folds.{find-append}

module _ {A : Type 0} (passes : A → Bool) where
  -- the last that passes, else what was found before
  abbrev pub last_from : Option A → List A → Option A
  last_from before [] = before
  last_from before (x ∷ xs) = last_from (if passes x then Some x else before) xs

  join : (b : Bool) (x : A) (later before : Option A) → option_or (option_or later (if b then Some x else None)) before ≡ option_or later (if b then Some x else before)
  join true x (Some y) before = refl
  join true x None before = refl
  join false x (Some y) before = refl
  join false x None before = refl

  last_before : (before : Option A) (xs : List A) → option_or (find passes (reverse xs)) before ≡ last_from before xs
  last_before before [] = refl
  last_before before (x ∷ xs) =
      ap (λ ys. option_or (find passes ys) before) (reverse-append (x ∷ []) xs)
      ∙ ap (λ o. option_or o before) (find-append passes (reverse xs) (x ∷ []))
      ∙ join (passes x) x (find passes (reverse xs)) before
      ∙ last_before (if passes x then Some x else before) xs

  plain : (o : Option A) → o ≡ option_or o None
  plain (Some x) = refl
  plain None = refl

  pub last_is_found : (xs : List A) → find passes (reverse xs) ≡ last_from None xs
  last_is_found xs = plain (find passes (reverse xs)) ∙ last_before None xs

  pub last_answered : {E : Type 0} (e : E) (xs : List A) (found : Option A) → last_from None xs ≡ found → option_map_or Ok found (Err e) ≡ option_map_or Ok (find passes (reverse xs)) (Err e)
  last_answered e xs found is = ap (λ o. option_map_or Ok o (Err e)) (sym (last_is_found xs ∙ is))
