-- The input value of a list and of an object.
use Rattle.std.proofs.Common.{◌≡◌, List, map, ap, ◌∙◌}
use Rattle.std.proofs.lemmas.Simd.{map-map}
use Rattle.graphql_output_values.specs.declared.object.Object.{Object}
use Rattle.graphql_output_values.specs.declared.value.Value.{Value}
use Rattle.graphql_output_values.specs.declared.value.Value.TheVariants as output
use Rattle.graphql_output_values.specs.ValueEquations.{on_value, fold_list, fold_fields}
use Rattle.graphql_values.specs.declared.input_value.InputValue.TheVariants as value
use Rattle.graphql_values.specs.InputValues.{unplaced, unplaced_pair}
use Rattle.graphql_output_values.specs.InputOfOutput.{input_layer, fields_layer, input_of, input_fields}

module _ {S : Type 0} where
  pub input_of_list : (items : List (Value S)) → input_of (output.List items) ≡ value.List (map (λ x. unplaced (input_of x)) items)
  input_of_list items = fold_list input_layer fields_layer items ∙ ap value.List (map-map unplaced input_of items)

  pub fields_of_object : (o : Object S) → input_fields o ≡ map (λ p. unplaced_pair (p.0, input_of p.1)) o.fields
  fields_of_object o = fold_fields input_layer fields_layer o ∙ map-map unplaced_pair (on_value input_of) o.fields
