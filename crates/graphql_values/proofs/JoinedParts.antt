-- Parts that are joined: of a mapped list, of parts that are the same, and the texts of what is joined.
use Rattle.std.proofs.Common.{◌≡◌, List, [], ◌∷◌, ◌++◌, map, ap, ◌∙◌, refl}
use Rattle.std.specs.List.{All, flat_map, join_by}
use Rattle.std.proofs.lemmas.Grind.{flat_map-append}
use Rattle.std.proofs.lemmas.List.Elements.{All-head, All-tail}

module _ {X A : Type 0} where
  after_map : {Y : Type 0} (f : Y → List A) (sep : List A) (h : X → Y) (xs : List X) → flat_map (λ y. sep ++ f y) (map h xs) ≡ flat_map (λ x. sep ++ f (h x)) xs
  after_map f sep h [] = refl
  after_map f sep h (x ∷ xs) = ap (λ r. (sep ++ f (h x)) ++ r) (after_map f sep h xs)

  pub joined_map : {Y : Type 0} (f : Y → List A) (sep : List A) (h : X → Y) (xs : List X) → join_by f sep (map h xs) ≡ join_by (λ x. f (h x)) sep xs
  joined_map f sep h [] = refl
  joined_map f sep h (x ∷ xs) = ap (λ r. f (h x) ++ r) (after_map f sep h xs)

  after_same : (f g : X → List A) (sep : List A) (xs : List X) → All (λ x. f x ≡ g x) xs → flat_map (λ x. sep ++ f x) xs ≡ flat_map (λ x. sep ++ g x) xs
  after_same f g sep [] same = refl
  after_same f g sep (x ∷ xs) same = (λ i. (sep ++ All-head (λ y. f y ≡ g y) x xs same i) ++ after_same f g sep xs (All-tail (λ y. f y ≡ g y) x xs same) i)

  -- parts that are the same, joined
  pub joined_same : (f g : X → List A) (sep : List A) (xs : List X) → All (λ x. f x ≡ g x) xs → join_by f sep xs ≡ join_by g sep xs
  joined_same f g sep [] same = refl
  joined_same f g sep (x ∷ xs) same = (λ i. All-head (λ y. f y ≡ g y) x xs same i ++ after_same f g sep xs (All-tail (λ y. f y ≡ g y) x xs same) i)

module _ {X A B : Type 0} (text : A → List B) (f : X → List A) (sep : List A) where
  after_texts : (xs : List X) → flat_map text (flat_map (λ x. sep ++ f x) xs) ≡ flat_map (λ x. flat_map text sep ++ flat_map text (f x)) xs
  after_texts [] = refl
  after_texts (x ∷ xs) = flat_map-append text (sep ++ f x) (flat_map (λ y. sep ++ f y) xs) ∙ (λ i. flat_map-append text sep (f x) i ++ after_texts xs i)

  -- the texts of what is joined
  pub joined_texts : (xs : List X) → flat_map text (join_by f sep xs) ≡ join_by (λ x. flat_map text (f x)) (flat_map text sep) xs
  joined_texts [] = refl
  joined_texts (x ∷ xs) = flat_map-append text (f x) (flat_map (λ y. sep ++ f y) xs) ∙ ap (λ r. flat_map text (f x) ++ r) (after_texts xs)
