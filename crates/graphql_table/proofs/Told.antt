-- Lists of what is lent.
use Rattle.std.proofs.Common.{◌≡◌, List, [], ◌∷◌, map, Bor, refl, ap}

pub told_map : {A B : Type 0} (f : A → B) (xs : List (Bor A)) → map f (map (λ x. x.now) xs) ≡ map (λ x. f x.now) xs
told_map f [] = refl
told_map f (x ∷ xs) = ap (λ ys. f x.now ∷ ys) (told_map f xs)
