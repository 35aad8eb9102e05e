-- One turn of a loop that keeps the nodes of those that have one: what was kept, and then what is left, is what the whole keeps.
use Rattle.std.proofs.Common.{◌≡◌, ℕ, ◌+◌, ◌<◌, ◌≤◌, List, ◌∷◌, ◌++◌, Option, drop, length, get_or, map, sym, ap, ◌∙◌, append_assoc}
use Rattle.std.specs.Option.{option_to_list}
use Rattle.std.proofs.lemmas.List.{append-nil, at_drop_more, drop_all, map-append}
use Rattle.graphql_scalars.specs.declared.default_scalar.DefaultScalarValue.{DefaultScalarValue}
use Rattle.graphql_field_results.specs.declared.resolved.Resolved.{Resolved}
use Rattle.graphql_field_results.specs.declared.resolved.Resolved.TheVariants as resolved
use Rattle.graphql_resolvers.specs.Answers.{kept}

module _ {N A : Type 0} (node : ℕ → A → Option N) where
  -- the nodes of those from a place on, as they are answered
  abbrev pub left : ℕ → List A → List (Resolved DefaultScalarValue N)
  left place xs = map (λ n. resolved.Node n) (kept node place xs)

  abbrev pub told : Option N → List (Resolved DefaultScalarValue N)
  told found = map (λ n. resolved.Node n) (option_to_list found)

  module _ (items : List A) (i : ℕ) (this : A) (found : List (Resolved DefaultScalarValue N))
      (inside : i < length items) (here : get_or items i this ≡ this)
      (so_far : left 0 items ≡ found ++ left i (drop i items)) where
    pub kept_turn : (o : Option N) (new : List (Resolved DefaultScalarValue N)) → node i this ≡ o → new ≡ found ++ told o
        → left 0 items ≡ new ++ left (i + 1) (drop (i + 1) items)
    kept_turn o new is pushed =
        let rest = drop (i + 1) items in
        so_far ∙ at_drop_more (λ xs. found ++ left i xs) items i this inside
        ∙ ap (λ x. found ++ left i (x ∷ rest)) here
        ∙ ap (λ xs. found ++ xs) (map-append (λ n. resolved.Node n) (option_to_list (node i this)) (kept node (i + 1) rest))
        ∙ ap (λ p. found ++ (told p ++ left (i + 1) rest)) is
        ∙ sym (append_assoc found (told o) (left (i + 1) rest))
        ∙ ap (λ xs. xs ++ left (i + 1) rest) (sym pushed)

  pub kept_whole : (items : List A) (i : ℕ) (found : List (Resolved DefaultScalarValue N)) → length items ≤ i
      → left 0 items ≡ found ++ left i (drop i items) → left 0 items ≡ found
  kept_whole items i found whole so_far = so_far ∙ ap (λ xs. found ++ left i xs) (drop_all i items whole) ∙ append-nil found
