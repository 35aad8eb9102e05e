-- What a list and an input object are once variables have their values, by their parts.
use Rattle.std.proofs.Common.{◌≡◌, List, [], ◌∷◌, map, Option, Some, None, ap, refl, ◌∙◌}
use Rattle.std.proofs.lemmas.Simd.{map-map}
use Rattle.std.specs.List.{cons_option, filter_map}
use Rattle.graphql_text.specs.declared.text.Text.{Text}
use Rattle.graphql_values.specs.InputValues.{Placed, Pair}
use Rattle.graphql_values.specs.Variables.{given_pair}
use Rattle.graphql_values.specs.declared.input_value.InputValue.{InputValue}
use Rattle.graphql_values.specs.declared.input_value.InputValue.TheVariants as value
use Rattle.graphql_values.proofs.InputValueEquations.{on_item, on_value, fold_list, fold_object}
use Rattle.graphql_written_out.specs.Filled.{item_or_null, filled, filled_layer, filled_item, filled_pair}
use Rattle.graphql_written_out.specs.Told.{item_told, field_told}

filter_map-map : {A B C : Type 0} (f : B → Option C) (g : A → B) (xs : List A) → filter_map f (map g xs) ≡ filter_map (λ x. f (g x)) xs
filter_map-map f g [] = refl
filter_map-map f g (x ∷ xs) = ap (cons_option (f (g x))) (filter_map-map f g xs)

module _ {S : Type 0} (given : Text → Option (InputValue S)) where
  pub filled_list : (xs : List (Placed (InputValue S))) → filled given (value.List xs) ≡ Some (value.List (map (filled_item given) xs))
  filled_list xs = fold_list (filled_layer given) xs ∙ ap (λ ys. Some (value.List ys)) (map-map item_or_null (on_item (filled given)) xs)

  pub filled_object : (ps : List (Pair (InputValue S))) → filled given (value.Object ps) ≡ Some (value.Object (filter_map (filled_pair given) ps))
  filled_object ps = fold_object (filled_layer given) ps ∙ ap (λ qs. Some (value.Object qs)) (filter_map-map given_pair (on_value (filled given)) ps)

module _ {S : Type 0} where
  -- what holds no variables of a literal is told as it is
  pub items_stay : (xs : List (Placed (InputValue S))) → map (item_told None) xs ≡ xs
  items_stay [] = refl
  items_stay (x ∷ xs) = ap (λ ys. x ∷ ys) (items_stay xs)

  pub fields_stay : (ps : List (Pair (InputValue S))) → filter_map (field_told None) ps ≡ ps
  fields_stay [] = refl
  fields_stay (p ∷ ps) = ap (λ qs. p ∷ qs) (fields_stay ps)
