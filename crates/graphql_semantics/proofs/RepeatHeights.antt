-- How high sets are that differ by repeats.
use Rattle.std.proofs.Common.{◌⊎◌, ⊎_elim, ◌≡◌, refl, ap, ℕ, ◌≤◌, max, arith, List, [], ◌∷◌, ◌++◌, map}
use Rattle.std.specs.List.{Contains}
use Rattle.std.proofs.lemmas.List.{map-append}
use Rattle.graphql_written_out.specs.Trees.{Tree, height}
use Rattle.graphql_written_out.specs.Fields.{Found}
use Rattle.graphql_written_out.specs.Repeats.{AddsButRepeats, nothing, kept, again, Repeats}
use Rattle.graphql_semantics.specs.Evaluation.{highest, sets_below}
use Rattle.graphql_semantics.proofs.Elements.{none-in, cons-cases}
use Rattle.graphql_semantics.proofs.Heights.{highest-append, top, top-append}

module _ {S : Type 0} where
  pub top-adds : {old xs new : List (Found S)} → AddsButRepeats (Found S) old xs new → top new ≤ max (top old) (top xs)
  top-adds (nothing {old = old}) = omega arith
  top-adds (kept {old = old} {xs = xs} {new = new} x a) =
      let ih : top new ≤ max (top (old ++ x ∷ [])) (top xs) = top-adds a in
      omega (arith, ih, top-append old (x ∷ []))
  top-adds (again {old = old} {xs = xs} {new = new} x c a) =
      let ih : top new ≤ max (top old) (top xs) = top-adds a in
      omega (arith, ih)

  high-one : (xs : List (Tree S)) (x : Tree S) → Contains xs x → height x ≤ highest xs
  high-one [] x c = none-in x c
  high-one (y ∷ ys) x c =
      ⊎_elim (λ e. let same : height y ≡ height x = ap height e in omega (arith, same)) (λ d. let ih : height x ≤ highest ys = high-one ys x d in omega (arith, ih)) (cons-cases y x ys c)

  highest-adds : {old xs new : List (Tree S)} → AddsButRepeats (Tree S) old xs new → highest new ≡ max (highest old) (highest xs)
  highest-adds (nothing {old = old}) = omega arith
  highest-adds (kept {old = old} {xs = xs} {new = new} x a) =
      let ih : highest new ≡ max (highest (old ++ x ∷ [])) (highest xs) = highest-adds a in
      omega (arith, ih, highest-append old (x ∷ []))
  highest-adds (again {old = old} {xs = xs} {new = new} x c a) =
      let ih : highest new ≡ max (highest old) (highest xs) = highest-adds a in
      omega (arith, ih, high-one old x c)

  pub highest-repeats : (ys xs : List (Tree S)) → Repeats ys xs → highest ys ≡ highest xs
  highest-repeats ys xs a = omega (arith, highest-adds a)
