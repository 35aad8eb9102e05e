-- One turn of a loop over the items of a list, each of which has to be of a kind: what was found, and then what is left, is what the whole is.
use Rattle.std.proofs.Common.{◌≡◌, ℕ, ◌+◌, ◌<◌, ◌≤◌, List, [], ◌∷◌, ◌++◌, Option, Some, None, drop, length, get_or, map, refl, sym, ap, ◌∙◌, append_assoc}
use Rattle.std.specs.Option.{option_and_then, option_map}
use Rattle.std.proofs.lemmas.List.{append-nil, at_drop_more, drop_all}
use Rattle.graphql_scalars.specs.declared.default_scalar.DefaultScalarValue.{DefaultScalarValue}
use Rattle.graphql_values.specs.InputValues.{Placed}
use Rattle.graphql_values.specs.declared.input_value.InputValue.{InputValue}
use Rattle.graphql_resolvers.specs.Asked.{Leaf, all_some}
use Rattle.graphql_resolvers.specs.Inputs.{leaf_of, leaves_of}

abbrev pub Item : Type 0
Item = Placed (InputValue DefaultScalarValue)

-- what was found before the rest
abbrev pub before : {A : Type 0} → List A → Option (List A) → Option (List A)
before found rest = option_map (λ ys. found ++ ys) rest

pub from_start : {A : Type 0} (o : Option (List A)) → o ≡ before [] o
from_start None = refl
from_start (Some xs) = refl

one_more : {A : Type 0} (found : List A) (y : A) (rest : Option (List A)) → before found (option_map (λ ys. y ∷ ys) rest) ≡ before (found ++ y ∷ []) rest
one_more found y None = refl
one_more found y (Some ys) = ap Some (sym (append_assoc found (y ∷ []) ys))

module _ {A : Type 0} (kind : Leaf → Option A) where
  -- what the items are
  abbrev pub read : List Item → Option (List A)
  read xs = all_some (map (option_and_then kind) (leaves_of xs))

  module _ (items : List Item) (i : ℕ) (this : Item) (found : List A)
      (inside : i < length items) (here : get_or items i this ≡ this)
      (so_far : read items ≡ before found (read (drop i items))) where
    opened : read items ≡ before found (option_and_then (λ y. option_map (λ ys. y ∷ ys) (read (drop (i + 1) items))) (option_and_then kind (leaf_of this.item)))
    opened = so_far ∙ at_drop_more (λ xs. before found (read xs)) items i this inside ∙ ap (λ (x : Item). before found (read (x ∷ drop (i + 1) items))) here

    pub item_turn : (y : A) (new : List A) → option_and_then kind (leaf_of this.item) ≡ Some y → new ≡ found ++ y ∷ []
        → read items ≡ before new (read (drop (i + 1) items))
    item_turn y new is pushed =
        let rest = read (drop (i + 1) items) in
        opened ∙ ap (λ o. before found (option_and_then (λ z. option_map (λ ys. z ∷ ys) rest) o)) is
        ∙ one_more found y rest ∙ ap (λ xs. before xs rest) (sym pushed)

    pub item_stops : option_and_then kind (leaf_of this.item) ≡ None → None ≡ read items
    item_stops is = sym (opened ∙ ap (λ o. before found (option_and_then (λ z. option_map (λ ys. z ∷ ys) (read (drop (i + 1) items))) o)) is)

  pub item_whole : (items : List Item) (i : ℕ) (found : List A) → length items ≤ i
      → read items ≡ before found (read (drop i items)) → Some found ≡ read items
  item_whole items i found whole so_far = sym (so_far ∙ ap (λ xs. before found (read xs)) (drop_all i items whole) ∙ ap Some (append-nil found))
