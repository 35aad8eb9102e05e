-- The text of a value, form by form.
use Rattle.std.proofs.Common.{◌≡◌, List, ◌++◌, ap, ◌∙◌}
use Rattle.std.specs.Prelude.{codes}
use Rattle.std.specs.List.{join_by}
use Rattle.graphql_scalars.specs.ScalarAnswers.{ScalarAnswer}
use Rattle.graphql_scalars.specs.ScalarText.{scalar_text}
use Rattle.graphql_output_values.specs.ValueText.{field_text, fields_text, layer_text, object_layer_text, value_text}
use Rattle.graphql_output_values.specs.declared.object.Object.{Object}
use Rattle.graphql_output_values.specs.declared.value.Value.{Value}
use Rattle.graphql_output_values.specs.declared.value.Value.TheVariants as value
use Rattle.graphql_output_values.specs.ValueEquations.{on_value, fold_null, fold_scalar, fold_list, fold_object, fold_fields}
use Rattle.graphql_scalars.proofs.JoinLemmas.{join_by-map}

module _ {S : Type 0} (answer : S → ScalarAnswer) where
  pub value_text-null : value_text answer value.Null ≡ codes "null"
  value_text-null = fold_null (layer_text answer) (object_layer_text answer)

  pub value_text-scalar : (s : S) → value_text answer (value.Scalar s) ≡ scalar_text (answer s)
  value_text-scalar s = fold_scalar (layer_text answer) (object_layer_text answer) s

  pub value_text-list : (xs : List (Value S)) → value_text answer (value.List xs) ≡ codes "[" ++ (join_by (value_text answer) (codes ", ") xs ++ codes "]")
  value_text-list xs = fold_list (layer_text answer) (object_layer_text answer) xs ∙ ap (λ t. codes "[" ++ (t ++ codes "]")) (join_by-map (λ t. t) (value_text answer) xs)

  pub value_text-object : (o : Object S) → value_text answer (value.Object o) ≡ fields_text (value_text answer) o.fields
  value_text-object o =
      fold_object (layer_text answer) (object_layer_text answer) o
      ∙ fold_fields (layer_text answer) (object_layer_text answer) o
      ∙ ap (λ t. codes "{" ++ (t ++ codes "}")) (join_by-map (field_text (λ t. t)) (on_value (value_text answer)) o.fields)
