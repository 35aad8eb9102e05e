-- What a fold gives at each form of an input value.
use Rattle.std.proofs.Common.{◌≡◌, List, map, ap, sym, ◌∙◌}
use Rattle.std.proofs.lemmas.Simd.{map-map}
use Rattle.graphql_text.specs.declared.text.Text.{Text}
use Rattle.graphql_values.specs.declared.input_value.InputValue.{InputValue, fold-InputValue, fold-roll-InputValue}
use Rattle.graphql_values.specs.declared.input_value.InputValue.TheOpen.{InputValue-F}
use Rattle.graphql_values.specs.declared.input_value.InputValue.TheVariants as value
use Rattle.graphql_values.specs.InputValues.{Placed, Pair, unplaced, unplaced_pair, unlocated, unlocated_layer}

-- a function on what is at a place, and on a field's value
abbrev pub on_item : {A B : Type 0} → (A → B) → Placed A → Placed B
on_item f x = record { item = f x.item; span = x.span }

abbrev pub on_value : {A B : Type 0} → (A → B) → Pair A → Pair B
on_value f p = (p.0, on_item f p.1)

module _ {S A : Type 0} (step : InputValue-F S A → A) where
  abbrev pub folded : InputValue S → A
  folded = fold-InputValue S A step

  pub fold_null : folded value.Null ≡ step InputValue-F.Null
  fold_null = ap folded (sym value.rolls-Null) ∙ fold-roll-InputValue S A step InputValue-F.Null

  pub fold_scalar : (s : S) → folded (value.Scalar s) ≡ step (InputValue-F.Scalar s)
  fold_scalar s = ap folded (sym (value.rolls-Scalar s)) ∙ fold-roll-InputValue S A step (InputValue-F.Scalar s)

  pub fold_enum : (n : Text) → folded (value.Enum n) ≡ step (InputValue-F.Enum n)
  fold_enum n = ap folded (sym (value.rolls-Enum n)) ∙ fold-roll-InputValue S A step (InputValue-F.Enum n)

  pub fold_variable : (n : Text) → folded (value.Variable n) ≡ step (InputValue-F.Variable n)
  fold_variable n = ap folded (sym (value.rolls-Variable n)) ∙ fold-roll-InputValue S A step (InputValue-F.Variable n)

  pub fold_list : (xs : List (Placed (InputValue S))) → folded (value.List xs) ≡ step (InputValue-F.List (map (on_item folded) xs))
  fold_list xs = ap folded (sym (value.rolls-List xs)) ∙ fold-roll-InputValue S A step (InputValue-F.List xs)

  pub fold_object : (ps : List (Pair (InputValue S))) → folded (value.Object ps) ≡ step (InputValue-F.Object (map (on_value folded) ps))
  fold_object ps = ap folded (sym (value.rolls-Object ps)) ∙ fold-roll-InputValue S A step (InputValue-F.Object ps)

pub ruleset value_folds = (fold_null, fold_scalar, fold_enum, fold_variable, fold_list, fold_object)

module _ {S : Type 0} where
  pub unlocated_list : (xs : List (Placed (InputValue S))) → unlocated (value.List xs) ≡ value.List (map (λ (x : Placed (InputValue S)). unplaced (unlocated x.item)) xs)
  unlocated_list xs = fold_list unlocated_layer xs ∙ ap value.List (map-map (λ x. unplaced x.item) (on_item unlocated) xs)

  pub unlocated_object : (ps : List (Pair (InputValue S))) → unlocated (value.Object ps) ≡ value.Object (map (λ (p : Pair (InputValue S)). unplaced_pair (p.0.item, unlocated p.1.item)) ps)
  unlocated_object ps = fold_object unlocated_layer ps ∙ ap value.Object (map-map (λ p. unplaced_pair (p.0.item, p.1.item)) (on_value unlocated) ps)
