-- Induction over an input value: what is to hold of a list or an object may be shown from what holds of its parts.
use Rattle.std.proofs.Common.{List, map, sym, subst, get_or}
use Rattle.std.specs.List.{All}
use Rattle.std.proofs.lemmas.List.Elements.{All-map}
use Rattle.graphql_text.specs.declared.text.Text.{Text}
use Rattle.graphql_values.specs.declared.input_value.InputValue.{InputValue, roll-InputValue, ind-InputValue, map-InputValue}
use Rattle.graphql_values.specs.declared.input_value.InputValue.TheOpen.{InputValue-F}
use Rattle.graphql_values.specs.declared.input_value.InputValue.TheVariants as value
use Rattle.graphql_values.specs.InputValues.{Placed, Pair}
use Rattle.graphql_values.proofs.InputValueEquations.{on_item, on_value}

module _ {S : Type 0} (P : InputValue S → Type 0) where
  -- a part, with the proof for it
  abbrev pub PartWithProof : Type 0
  PartWithProof = (x : InputValue S) × P x

  abbrev pub HoldsOfItems : List (Placed (InputValue S)) → Type 0
  HoldsOfItems xs = All (λ (x : Placed (InputValue S)). P x.item) xs

  abbrev pub HoldsOfPairs : List (Pair (InputValue S)) → Type 0
  HoldsOfPairs ps = All (λ (p : Pair (InputValue S)). P p.1.item) ps

  items_hold : (xs : List (Placed PartWithProof)) → HoldsOfItems (map (on_item (λ (e : PartWithProof). e.0)) xs)
  items_hold xs = All-map (λ x. P x.item) (on_item (λ (e : PartWithProof). e.0)) xs (λ k d h. (get_or xs k d).item.1)

  pairs_hold : (ps : List (Pair PartWithProof)) → HoldsOfPairs (map (on_value (λ (e : PartWithProof). e.0)) ps)
  pairs_hold ps = All-map (λ p. P p.1.item) (on_value (λ (e : PartWithProof). e.0)) ps (λ k d h. (get_or ps k d).1.item.1)

  pub value_ind :
      P value.Null
      → ((s : S) → P (value.Scalar s))
      → ((n : Text) → P (value.Enum n))
      → ((n : Text) → P (value.Variable n))
      → ((xs : List (Placed (InputValue S))) → HoldsOfItems xs → P (value.List xs))
      → ((ps : List (Pair (InputValue S))) → HoldsOfPairs ps → P (value.Object ps))
      → (d : InputValue S) → P d
  value_ind at_null at_scalar at_enum at_variable at_list at_object = ind-InputValue S P (λ x y is. subst (λ z. P (roll-InputValue S z)) is (elim y as (λ w. P (roll-InputValue S (map-InputValue S _ _ (λ e. e.0) w))) [
    | InputValue-F.Null ↦ subst P (sym value.rolls-Null) at_null
    | InputValue-F.Scalar s ↦ subst P (sym (value.rolls-Scalar s)) (at_scalar s)
    | InputValue-F.Enum n ↦ subst P (sym (value.rolls-Enum n)) (at_enum n)
    | InputValue-F.Variable n ↦ subst P (sym (value.rolls-Variable n)) (at_variable n)
    | InputValue-F.List xs ↦ subst P (sym (value.rolls-List _)) (at_list _ (items_hold xs))
    | InputValue-F.Object ps ↦ subst P (sym (value.rolls-Object _)) (at_object _ (pairs_hold ps))
  ]))
