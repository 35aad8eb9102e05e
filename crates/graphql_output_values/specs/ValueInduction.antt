-- Induction over a value: what is to hold of a list or an object may be shown from what holds of
-- its parts.
use Rattle.std.proofs.Common.{List, map, sym, subst, get_or}
use Rattle.std.specs.List.{All}
use Rattle.std.proofs.lemmas.List.Elements.{All-map}
use Rattle.graphql_output_values.specs.declared.object.Object.{Object}
use Rattle.graphql_output_values.specs.declared.value.Value.{Value, roll-Value, ind-Value}
use Rattle.graphql_output_values.specs.declared.value.Value.{map-Value}
use Rattle.graphql_output_values.specs.declared.value.Value.TheOpen.{Value-F}
use Rattle.graphql_output_values.specs.declared.value.Value.TheVariants as value
use Rattle.graphql_output_values.specs.Objects.{Pair}
use Rattle.graphql_output_values.specs.ValueEquations.{on_value}

module _ {S : Type 0} (P : Value S → Type 0) where
  -- a part, with the proof for it
  abbrev pub PartWithProof : Type 0
  PartWithProof = (x : Value S) × P x

  abbrev pub HoldsOfItems : List (Value S) → Type 0
  HoldsOfItems xs = All P xs

  abbrev pub HoldsOfFields : List (Pair (Value S)) → Type 0
  HoldsOfFields ps = All (λ (p : Pair (Value S)). P p.1) ps

  items_hold : (xs : List PartWithProof) → HoldsOfItems (map (λ (e : PartWithProof). e.0) xs)
  items_hold xs = All-map P (λ (e : PartWithProof). e.0) xs (λ k d h. (get_or xs k d).1)

  fields_hold : (ps : List (Pair PartWithProof))
      → HoldsOfFields (map (on_value (λ (e : PartWithProof). e.0)) ps)
  fields_hold ps =
      All-map (λ p. P p.1) (on_value (λ (e : PartWithProof). e.0)) ps (λ k d h. (get_or ps k d).1.1)

  -- what holds of each value: of null, of scalars, and of lists and objects of such values
  pub value_ind :
      P value.Null
      → ((s : S) → P (value.Scalar s))
      → ((xs : List (Value S)) → HoldsOfItems xs → P (value.List xs))
      → ((o : Object S) → HoldsOfFields o.fields → P (value.Object o))
      → (v : Value S) → P v
  value_ind at_null at_scalar at_list at_object = ind-Value S P (λ o. HoldsOfFields o.fields)
      (λ x y is. subst (λ z. P (roll-Value S z)) is
      (elim y as (λ w. P (roll-Value S (map-Value S _ _ _ _ (λ e. e.0) (λ e. e.0) w))) [
        | Value-F.Null ↦ subst P (sym value.rolls-Null) at_null
        | Value-F.Scalar s ↦ subst P (sym (value.rolls-Scalar s)) (at_scalar s)
        | Value-F.List xs ↦ subst P (sym (value.rolls-List _)) (at_list _ (items_hold xs))
        | Value-F.Object o ↦ subst P (sym (value.rolls-Object _)) (at_object o.0 o.1)
      ]))
      (λ x y is. subst (λ z. HoldsOfFields z.fields) is (fields_hold y.fields))
