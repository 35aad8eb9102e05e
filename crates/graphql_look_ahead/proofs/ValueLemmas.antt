-- What is seen of a list and of an input object, by their parts.
use Rattle.std.proofs.Common.{◌≡◌, List, map, Option}
use Rattle.graphql_text.specs.declared.text.Text.{Text}
use Rattle.graphql_values.specs.InputValues.{Placed, Pair}
use Rattle.graphql_values.specs.declared.input_value.InputValue.{InputValue}
use Rattle.graphql_values.specs.declared.input_value.InputValue.TheVariants as value
use Rattle.graphql_values.proofs.InputValueEquations.{on_item, on_value, fold_list, fold_object}
use Rattle.graphql_look_ahead.specs.Seen.{value_seen, seen_layer}

module _ {S : Type 0} (given : Text → Option (InputValue S)) where
  pub seen_list : (xs : List (Placed (InputValue S))) → value_seen given (value.List xs) ≡ value.List (map (on_item (value_seen given)) xs)
  seen_list xs = fold_list (seen_layer given) xs

  pub seen_object : (ps : List (Pair (InputValue S))) → value_seen given (value.Object ps) ≡ value.Object (map (on_value (value_seen given)) ps)
  seen_object ps = fold_object (seen_layer given) ps
