-- Which values are scalars, wherever they stand.
use Rattle.std.specs.Prelude.{◌≡◌, refl, Bool, true, false}
use Rattle.std.proofs.Common.{sym, ◌∙◌, ap}
use Rattle.graphql_values.specs.SameValue.{SameValue, same_null, same_scalar, same_enum}
use Rattle.graphql_values.specs.SameValue.{same_variable, same_list, same_object}
use Rattle.graphql_values.specs.declared.input_value.InputValue.{InputValue, out-InputValue}
use Rattle.graphql_values.specs.declared.input_value.InputValue.TheOpen.{InputValue-F}
use Rattle.graphql_values.specs.declared.input_value.InputValue.TheVariants as value

abbrev pub is_scalar_layer : {S X : Type 0} → InputValue-F S X → Bool
is_scalar_layer InputValue-F.Null = false
is_scalar_layer (InputValue-F.Scalar scalar) = true
is_scalar_layer (InputValue-F.Enum name) = false
is_scalar_layer (InputValue-F.Variable name) = false
is_scalar_layer (InputValue-F.List items) = false
is_scalar_layer (InputValue-F.Object pairs) = false

abbrev pub is_scalar : {S : Type 0} → InputValue S → Bool
is_scalar {S} v = is_scalar_layer (out-InputValue S v)

module _ {S : Type 0} (eq : S → S → Bool) where
  pub same_kind : (a b : InputValue S) → SameValue S eq a b → is_scalar a ≡ is_scalar b
  same_kind a b same_null = refl
  same_kind a b (same_scalar x y h) =
      ap is_scalar_layer (value.outs-Scalar x) ∙ sym (ap is_scalar_layer (value.outs-Scalar y))
  same_kind a b (same_enum name) = refl
  same_kind a b (same_variable name) = refl
  same_kind a b (same_list xs ys h) =
      ap is_scalar_layer (value.outs-List xs) ∙ sym (ap is_scalar_layer (value.outs-List ys))
  same_kind a b (same_object xs ys h) =
      ap is_scalar_layer (value.outs-Object xs) ∙ sym (ap is_scalar_layer (value.outs-Object ys))

  pub scalar_again : (a b : InputValue S) → SameValue S eq a b → is_scalar a ≡ true
      → is_scalar b ≡ true
  scalar_again a b same is = sym (same_kind a b same) ∙ is
