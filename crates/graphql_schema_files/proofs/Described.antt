-- One turn of a loop that describes each draft.
use Rattle.std.proofs.Common.{◌≡◌, ◌<◌, ◌≤◌, ◌+◌, ℕ, List, [], ◌∷◌, ◌++◌, take, length, get_or, sym, subst}
use Rattle.std.specs.List.{AllZip}
use Rattle.std.proofs.lemmas.List.{take_all, take_more}

module _ {A B : Type 0} (Means : A → B → Type 0) where
  zip_push : (xs : List A) (ys : List B) (x : A) (y : B) → AllZip Means xs ys → Means x y → AllZip Means (xs ++ x ∷ []) (ys ++ y ∷ [])
  zip_push [] [] x y all means = (means, tt)
  zip_push [] (b ∷ ys) x y all means = absurd all
  zip_push (a ∷ xs) [] x y all means = absurd all
  zip_push (a ∷ xs) (b ∷ ys) x y all means = (all.0, zip_push xs ys x y all.1 means)

  pub described_turn : (xs : List A) (i : ℕ) (this : A) (ys new : List B) (y : B) → i < length xs → this ≡ get_or xs i this → new ≡ ys ++ y ∷ []
      → AllZip Means (take i xs) ys → Means this y → AllZip Means (take (i + 1) xs) new
  described_turn xs i this ys new y inside here pushed so_far means =
      subst (λ zs. AllZip Means (take (i + 1) xs) zs) (sym pushed)
      (subst (λ zs. AllZip Means zs (ys ++ y ∷ [])) (sym (take_more xs i this inside))
      (zip_push (take i xs) ys (get_or xs i this) y so_far (subst (λ x. Means x y) here means)))

  pub described_whole : (xs : List A) (i : ℕ) (ys : List B) → length xs ≤ i → AllZip Means (take i xs) ys → AllZip Means xs ys
  described_whole xs i ys whole so_far = subst (λ zs. AllZip Means zs ys) (take_all i xs whole) so_far
