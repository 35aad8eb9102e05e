-- What is given of a list's items, found item by item.
use Rattle.std.proofs.Common.{◌≡◌, ℕ, ◌+◌, ◌<◌, List, [], ◌∷◌, ◌++◌, length, take, get_or, Option, Some, None, ap, sym, ◌∙◌, append-nil}
use Rattle.std.specs.List.{filter_map, cons_option}
use Rattle.std.proofs.lemmas.List.{take_more}
use Rattle.std.proofs.lemmas.List.Elements.{filter_map-append}

module _ {A B : Type 0} (h : A → Option B) (xs : List A) (i : ℕ) (x : A) (before after : List B) where
  -- one item more, with what is given of it
  one_more : (o : Option B) → before ≡ filter_map h (take i xs) → i < length xs → x ≡ get_or xs i x → h x ≡ o → after ≡ before ++ cons_option o [] → after ≡ filter_map h (take (i + 1) xs)
  one_more o so_far within is gives grown =
      grown
      ∙ ap (λ ys. ys ++ cons_option o []) so_far
      ∙ ap (λ r. filter_map h (take i xs) ++ cons_option r []) (sym gives)
      ∙ sym (filter_map-append h (take i xs) (x ∷ []))
      ∙ ap (filter_map h) (sym (take_more xs i x within ∙ ap (λ z. take i xs ++ z ∷ []) (sym is)))

  -- one item more, of which there is something
  pub found_more : (y : B) → before ≡ filter_map h (take i xs) → i < length xs → x ≡ get_or xs i x → h x ≡ Some y → after ≡ before ++ y ∷ [] → after ≡ filter_map h (take (i + 1) xs)
  found_more y = one_more (Some y)

  -- one item more, of which there is nothing
  pub missed_more : before ≡ filter_map h (take i xs) → i < length xs → x ≡ get_or xs i x → h x ≡ None → after ≡ before → after ≡ filter_map h (take (i + 1) xs)
  missed_more so_far within is misses same = one_more None so_far within is misses (same ∙ sym (append-nil before))
