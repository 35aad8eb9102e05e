-- The text of a list and of an input object.
use Rattle.std.proofs.Common.{◌≡◌, List, ◌++◌, ap, ◌∙◌}
use Rattle.std.specs.List.{join_by}
use Rattle.std.specs.Prelude.{codes}
use Rattle.graphql_scalars.specs.ScalarAnswers.{ScalarAnswer}
use Rattle.graphql_scalars.proofs.JoinLemmas.{join_by-map}
use Rattle.graphql_values.specs.declared.input_value.InputValue.{InputValue}
use Rattle.graphql_values.specs.declared.input_value.InputValue.TheVariants as value
use Rattle.graphql_values.specs.InputValues.{Placed, Pair}
use Rattle.graphql_values.specs.InputValueText.{layer_text, input_value_text, item_text, field_text}
use Rattle.graphql_values.proofs.InputValueEquations.{on_item, on_value, fold_list, fold_object}

module _ {S : Type 0} (answer : S → ScalarAnswer) where
  pub input_value_text-list : (xs : List (Placed (InputValue S))) → input_value_text answer (value.List xs) ≡ codes "[" ++ join_by (item_text answer) (codes ", ") xs ++ codes "]"
  input_value_text-list xs = fold_list (layer_text answer) xs ∙ ap (λ t. codes "[" ++ t ++ codes "]") (join_by-map (λ x. x.item) (on_item (input_value_text answer)) xs)

  pub input_value_text-object : (ps : List (Pair (InputValue S))) → input_value_text answer (value.Object ps) ≡ codes "{" ++ join_by (field_text answer) (codes ", ") ps ++ codes "}"
  input_value_text-object ps = fold_object (layer_text answer) ps ∙ ap (λ t. codes "{" ++ t ++ codes "}") (join_by-map (λ p. p.0.item ++ codes ": " ++ p.1.item) (on_value (input_value_text answer)) ps)
