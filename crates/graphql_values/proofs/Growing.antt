-- One more step of a loop that copies a list, or what a function gives of each item.
use Rattle.std.proofs.Common.{◌≡◌, ℕ, ◌+◌, ◌<◌, ◌≤◌, List, [], ◌∷◌, ◌++◌, length, take, map, get_or, sym, ap, ◌∙◌}
use Rattle.std.proofs.lemmas.List.{take_more, map_more, take_all}

pub copied_more : {X : Type 0} (xs copies more : List X) (k : ℕ) (x y : X) → copies ≡ take k xs → k < length xs → x ≡ get_or xs k x → y ≡ x → more ≡ copies ++ y ∷ [] → more ≡ take (k + 1) xs
copied_more xs copies more k x y before within is same after =
    after ∙ ap (λ zs. zs ++ y ∷ []) before ∙ ap (λ z. take k xs ++ z ∷ []) (same ∙ is) ∙ sym (take_more xs k x within)

pub mapped_more : {X Y : Type 0} (f : X → Y) (xs : List X) (found more : List Y) (k : ℕ) (x : X) → found ≡ map f (take k xs) → k < length xs → x ≡ get_or xs k x → more ≡ found ++ f x ∷ [] → more ≡ map f (take (k + 1) xs)
mapped_more f xs found more k x before within is after =
    after ∙ ap (λ zs. zs ++ f x ∷ []) before ∙ ap (λ z. map f (take k xs) ++ f z ∷ []) is ∙ sym (map_more f xs k x within)

pub all_mapped : {X Y : Type 0} (f : X → Y) (xs : List X) (found : List Y) (k : ℕ) → found ≡ map f (take k xs) → length xs ≤ k → found ≡ map f xs
all_mapped f xs found k so_far past = so_far ∙ ap (map f) (take_all k xs past)
