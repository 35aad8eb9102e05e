-- One turn of a loop that looks for the first item of a list that has a fault.
use Rattle.std.proofs.Common.{◌≡◌, ◌<◌, ◌≤◌, ◌+◌, ◌∷◌, ◌∙◌, ℕ, List, drop, length, get_or, Option, Some, None, ap, sym}
use Rattle.std.specs.Option.{option_map, option_or}
use Rattle.std.proofs.lemmas.List.{at_drop_all, at_drop_more}
use Rattle.serde_json.specs.View.{view, items_view}
use Rattle.serde_json.specs.declared.value.Value.{Value}
use Rattle.serde_json.specs.Data.{Data}
use Rattle.graphql_schema_files.specs.ShapeFaults.{first_fault}
use Rattle.graphql_schema_files.specs.declared.wanted.ShapeFault.{ShapeFault}

module _ (within : ℕ → ShapeFault → ShapeFault) (fault_of : Data → Option ShapeFault) (whole : Option ShapeFault) (items : List Value) (i : ℕ) where
  abbrev left : ℕ → List Value → Option ShapeFault
  left k vs = first_fault within fault_of k (items_view vs)

  abbrev SoFar : Type 0
  SoFar = whole ≡ left i (drop i items)

  step : (this : Value) (found : Option ShapeFault) → i < length items → this ≡ get_or items i this → found ≡ fault_of (view this) → SoFar
      → whole ≡ option_or (option_map (within i) found) (left (i + 1) (drop (i + 1) items))
  step this found inside here is so_far =
      let rest = drop (i + 1) items in
      so_far ∙ at_drop_more (left i) items i this inside
      ∙ ap (λ v. left i (v ∷ rest)) (sym here)
      ∙ ap (λ o. option_or (option_map (within i) o) (left (i + 1) rest)) (sym is)

  pub fault_turn : (this : Value) (found : Option ShapeFault) → i < length items → this ≡ get_or items i this → found ≡ fault_of (view this) → found ≡ None → SoFar
      → whole ≡ left (i + 1) (drop (i + 1) items)
  fault_turn this found inside here is none so_far =
      step this found inside here is so_far ∙ ap (λ o. option_or (option_map (within i) o) (left (i + 1) (drop (i + 1) items))) none

  pub fault_first : (this : Value) (found : Option ShapeFault) (fault : ShapeFault) → i < length items → this ≡ get_or items i this → found ≡ fault_of (view this) → found ≡ Some fault → SoFar
      → whole ≡ Some (within i fault)
  fault_first this found fault inside here is some so_far =
      step this found inside here is so_far ∙ ap (λ o. option_or (option_map (within i) o) (left (i + 1) (drop (i + 1) items))) some

  pub fault_nowhere : length items ≤ i → SoFar → whole ≡ None
  fault_nowhere past so_far = so_far ∙ at_drop_all (left i) items i past
