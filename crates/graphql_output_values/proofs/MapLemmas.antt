-- What turning the scalars of a value leaves, form by form.
use Rattle.std.proofs.Common.{◌≡◌, List, [], ◌∷◌, ◌++◌, map, ap, sym, ◌∙◌}
use Rattle.std.proofs.lemmas.List.{map_push}
use Rattle.graphql_output_values.specs.declared.object.Object.{Object}
use Rattle.graphql_output_values.specs.declared.value.Value.{Value}
use Rattle.graphql_output_values.specs.declared.value.Value.TheVariants as value
use Rattle.graphql_output_values.specs.Values.{map_layer, map_fields_layer, map_scalars, map_field}
use Rattle.graphql_output_values.specs.ValueEquations.{fold_null, fold_scalar, fold_list, fold_object, fold_fields}

module _ {S T : Type 0} (f : S → T) where
  pub map_scalars-null : map_scalars f value.Null ≡ value.Null
  map_scalars-null = fold_null (map_layer f) (map_fields_layer f)

  pub map_scalars-scalar : (s : S) → map_scalars f (value.Scalar s) ≡ value.Scalar (f s)
  map_scalars-scalar s = fold_scalar (map_layer f) (map_fields_layer f) s

  pub map_scalars-list : (xs : List (Value S)) → map_scalars f (value.List xs) ≡ value.List (map (map_scalars f) xs)
  map_scalars-list xs = fold_list (map_layer f) (map_fields_layer f) xs

  pub map_scalars-object : (o : Object S) → map_scalars f (value.Object o) ≡ value.Object (record { fields = map (map_field f) o.fields })
  map_scalars-object o = fold_object (map_layer f) (map_fields_layer f) o ∙ ap value.Object (fold_fields (map_layer f) (map_fields_layer f) o)

-- one more item of a list that a function was applied to
pub map_more : {A B : Type 0} (h : A → B) (ys : List A) (y : A) (made next : List B) (z : B) → made ≡ map h ys → next ≡ made ++ z ∷ [] → z ≡ h y → next ≡ map h (ys ++ y ∷ [])
map_more h ys y made next z before pushed is = pushed ∙ (λ i. before i ++ is i ∷ []) ∙ sym (map_push h ys y)
