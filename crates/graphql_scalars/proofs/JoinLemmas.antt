-- Texts with a comma and a space between any two, one more at a time.
use Rattle.std.proofs.Common.{◌≡◌, ◌<◌, ℕ, zero, suc, ◌+◌, true, add-one, List, [], ◌∷◌, ◌++◌, length, get_or, take, map, ap, sym, refl, ◌∙◌, append_assoc, append-nil, arith}
use lib.Utf8.{scalars, encodes, encode}
use Rattle.std.specs.Prelude.{codes}
use Rattle.std.specs.List.{flat_map, join_by}

-- what stands before the text at a place
abbrev pub gap : ℕ → List ℕ
gap zero = []
gap (suc i) = codes ", "

pub gap_later : (i : ℕ) → codes ", " ≡ gap (i + 1)
gap_later i = ap gap (sym (add-one i))

-- it is a text
pub gap_is_text : (x : List ℕ) × ((scalars x ≡ true) × (encodes x ≡ codes ", "))
unfolding encode
gap_is_text = (codes ", ", (refl, refl))

module _ {A : Type 0} (text : A → List ℕ) where
  follow_more : (xs : List A) (i : ℕ) (d : A) → i < length xs → flat_map (λ y. codes ", " ++ text y) (take i xs) ++ (codes ", " ++ text (get_or xs i d)) ≡ flat_map (λ y. codes ", " ++ text y) (take (suc i) xs)
  follow_more [] i d within = absurd (omega arith)
  follow_more (x ∷ xs) zero d within = sym (append-nil (codes ", " ++ text x))
  follow_more (x ∷ xs) (suc i) d within =
      append_assoc (codes ", " ++ text x) (flat_map (λ y. codes ", " ++ text y) (take i xs)) (codes ", " ++ text (get_or xs i d)) ∙ ap (λ r. (codes ", " ++ text x) ++ r) (follow_more xs i d (omega arith))

  next_joined : (xs : List A) (i : ℕ) (d : A) → i < length xs → join_by text (codes ", ") (take i xs) ++ (gap i ++ text (get_or xs i d)) ≡ join_by text (codes ", ") (take (suc i) xs)
  next_joined [] i d within = absurd (omega arith)
  next_joined (x ∷ xs) zero d within = sym (append-nil (text x))
  next_joined (x ∷ xs) (suc i) d within =
      append_assoc (text x) (flat_map (λ y. codes ", " ++ text y) (take i xs)) (codes ", " ++ text (get_or xs i d)) ∙ ap (λ r. text x ++ r) (follow_more xs i d (omega arith))

  -- the texts so far, what stands before the next one, and the next one
  pub join_by-more : (xs : List A) (i : ℕ) (d : A) → i < length xs → (join_by text (codes ", ") (take i xs) ++ gap i) ++ text (get_or xs i d) ≡ join_by text (codes ", ") (take (i + 1) xs)
  join_by-more xs i d within =
      append_assoc (join_by text (codes ", ") (take i xs)) (gap i) (text (get_or xs i d)) ∙ next_joined xs i d within ∙ ap (λ n. join_by text (codes ", ") (take n xs)) (sym (add-one i))

follow_map : {A B : Type 0} (text : B → List ℕ) (f : A → B) (xs : List A) → flat_map (λ y. codes ", " ++ text y) (map f xs) ≡ flat_map (λ y. codes ", " ++ text (f y)) xs
follow_map text f [] = refl
follow_map text f (x ∷ xs) = ap (λ r. (codes ", " ++ text (f x)) ++ r) (follow_map text f xs)

pub join_by-map : {A B : Type 0} (text : B → List ℕ) (f : A → B) (xs : List A) → join_by text (codes ", ") (map f xs) ≡ join_by (λ x. text (f x)) (codes ", ") xs
join_by-map text f [] = refl
join_by-map text f (x ∷ xs) = ap (λ r. text (f x) ++ r) (follow_map text f xs)
