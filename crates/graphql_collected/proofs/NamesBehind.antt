-- Names, and one that was put behind them.
use Rattle.std.proofs.Common.{◌⊎◌, ◌≡◌, refl, Bool, true, false, ◌||◌, List, [], ◌∷◌, ◌++◌, inl, inr}
use Rattle.std.specs.List.{list_any}
use Rattle.std.specs.Str.{bytes_eq}
use Rattle.std.proofs.lemmas.Slice.Eq.{bytes_eq-Decides}
use Rattle.graphql_names.specs.Names.{Bytes}

-- a name that was put behind names
pub last-cases : (n name : Bytes) (vs : List Bytes) → list_any (bytes_eq n) (vs ++ name ∷ []) ≡ true → (list_any (bytes_eq n) vs ≡ true) ⊎ (n ≡ name)
last-cases n name [] h = inr ((bytes_eq-Decides n name).0 (alone (bytes_eq n name) h))
  where
    alone : (q : Bool) → (q || false) ≡ true → q ≡ true
    alone true t = refl
    alone false t = t
last-cases n name (v ∷ vs) h = either (bytes_eq n v) (last-cases n name vs) h
  where
    either : (q : Bool) → (list_any (bytes_eq n) (vs ++ name ∷ []) ≡ true → (list_any (bytes_eq n) vs ≡ true) ⊎ (n ≡ name))
        → (q || list_any (bytes_eq n) (vs ++ name ∷ [])) ≡ true → ((q || list_any (bytes_eq n) vs) ≡ true) ⊎ (n ≡ name)
    either true ih t = inl refl
    either false ih t = ih t
