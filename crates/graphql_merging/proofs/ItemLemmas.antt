-- What holds of the items of a list, one by one.
use Rattle.std.proofs.Common.{◌≡◌, sym, ◌∙◌, subst, ℕ, ◌+◌, ◌<◌, List, length, get_or}
use Rattle.std.specs.List.{All, AllWithin, Any}
use Rattle.std.proofs.lemmas.List.Elements.{AllWithin-more}
use Rattle.graphql_values.proofs.SameValueLemmas.{get_or_any}

module _ {X : Type 0} (P : X → Type 0) where
  -- an item that stands at a place
  pub found_at : (xs : List X) (k : ℕ) (x : X) → k < length xs → x ≡ get_or xs k x → P x → Any P xs
  found_at xs k x within is here = (k, x, within, sym is, here)

  pub one_more : (xs : List X) (n : ℕ) (x : X) → AllWithin P xs 0 n → n < length xs → x ≡ get_or xs n x → P x → AllWithin P xs 0 (n + 1)
  one_more xs n x before within is here = AllWithin-more P xs 0 n before (λ d. subst P (is ∙ get_or_any xs n x d within) here)

  -- what holds of each item holds of the one that stands at a place
  pub holds_of : (xs : List X) (k : ℕ) (x : X) → k < length xs → x ≡ get_or xs k x → All P xs → P x
  holds_of xs k x within is all = subst P (sym is) (all k x within)
