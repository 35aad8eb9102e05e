-- The steps of a value, form by form, and the texts of steps.
use Rattle.std.proofs.Common.{◌≡◌, List, [], ◌∷◌, ◌++◌, ap, ◌∙◌}
use Rattle.graphql_output_values.specs.declared.object.Object.{Object}
use Rattle.graphql_output_values.specs.declared.value.Value.{Value}
use Rattle.graphql_output_values.specs.declared.value.Value.TheVariants as value
use Rattle.graphql_output_values.specs.Steps.{Null, Scalar, ListOpens, ListCloses, ObjectOpens, ObjectCloses, Gap, field_steps, steps_layer, object_steps_layer, steps, items_steps, fields_steps}
use Rattle.graphql_output_values.specs.ValueEquations.{on_value, fold_null, fold_scalar, fold_list, fold_object, fold_fields}
use Rattle.graphql_values.proofs.JoinedParts.{joined_map}

module _ {S : Type 0} where
  pub steps-null : steps {S = S} value.Null ≡ Null ∷ []
  steps-null = fold_null steps_layer object_steps_layer

  pub steps-scalar : (s : S) → steps (value.Scalar s) ≡ Scalar s ∷ []
  steps-scalar s = fold_scalar steps_layer object_steps_layer s

  pub steps-list : (xs : List (Value S)) → steps (value.List xs) ≡ ListOpens ∷ items_steps xs
  steps-list xs = fold_list steps_layer object_steps_layer xs ∙ ap (λ parts. ListOpens ∷ (parts ++ ListCloses ∷ [])) (joined_map (λ part. part) (Gap ∷ []) steps xs)

  pub steps-object : (o : Object S) → steps (value.Object o) ≡ ObjectOpens ∷ fields_steps o.fields
  steps-object o =
      fold_object steps_layer object_steps_layer o
      ∙ fold_fields steps_layer object_steps_layer o
      ∙ ap (λ parts. ObjectOpens ∷ (parts ++ ObjectCloses ∷ [])) (joined_map (field_steps (λ part. part)) (Gap ∷ []) (on_value steps) o.fields)
