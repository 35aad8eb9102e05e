-- The same arguments, wherever they stand, are of the same kinds, so they are answered alike.
use Rattle.std.specs.Prelude.{◌≡◌, refl, Bool, Option, Some, None, codes}
use Rattle.std.proofs.Common.{sym, ◌∙◌, ap}
use Rattle.graphql_names.specs.Names.{Bytes}
use Rattle.graphql_scalars.specs.declared.default_scalar.DefaultScalarValue.{DefaultScalarValue}
use Rattle.graphql_values.specs.SameValue.{SameValue, same_null, same_scalar, same_enum}
use Rattle.graphql_values.specs.SameValue.{same_variable, same_list, same_object}
use Rattle.graphql_values.specs.declared.input_value.InputValue.{InputValue}
use Rattle.graphql_values.specs.declared.input_value.InputValue.TheVariants as value
use Rattle.graphql_arguments.specs.ArgumentValues.{Given, value_named}
use Rattle.graphql_arguments.specs.SameArguments.{SameGiven}
use Rattle.graphql_execution_walk.specs.Answered.{SameArguments}
use Rattle.graphql_service_tests.specs.Beings.{answer, given_kind, kind_or_absent, of_root_by}
use Rattle.graphql_service_tests.specs.Kinds.{kind, kind_layer}
use Rattle.graphql_service_tests.specs.declared.executor.beings.Being.{Being}
use Rattle.graphql_service_tests.specs.declared.executor.beings.Being.TheVariants as being

module _ (eq : DefaultScalarValue → DefaultScalarValue → Bool) where
  pub same-kind : (a b : InputValue DefaultScalarValue) → SameValue DefaultScalarValue eq a b
      → kind a ≡ kind b
  same-kind a b same_null = refl
  same-kind a b (same_scalar x y h) =
      ap kind_layer (value.outs-Scalar x) ∙ sym (ap kind_layer (value.outs-Scalar y))
  same-kind a b (same_enum x) = refl
  same-kind a b (same_variable x) = refl
  same-kind a b (same_list xs ys h) =
      ap kind_layer (value.outs-List xs) ∙ sym (ap kind_layer (value.outs-List ys))
  same-kind a b (same_object xs ys h) =
      ap kind_layer (value.outs-Object xs) ∙ sym (ap kind_layer (value.outs-Object ys))

  pub same-or-absent : (u v : Option (InputValue DefaultScalarValue)) → SameGiven eq u v
      → kind_or_absent u ≡ kind_or_absent v
  same-or-absent None None h = refl
  same-or-absent (Some v) (Some w) h = same-kind v w h
  same-or-absent None (Some w) h = absurd h
  same-or-absent (Some v) None h = absurd h

  pub same-given : (a b : Given DefaultScalarValue) → SameArguments eq a b → (name : Bytes)
      → given_kind a name ≡ given_kind b name
  same-given a b h name = same-or-absent (value_named a name) (value_named b name) (h name)

  pub answers-same : (node : Being) (field : Bytes) (a b : Given DefaultScalarValue)
      → SameArguments eq a b → answer node field a ≡ answer node field b
  answers-same being.Root field a b h =
      ap (λ s. of_root_by s field) (same-given a b h (codes "value"))
  answers-same being.Ann field a b h = refl
  answers-same being.Rex field a b h = refl
  answers-same being.Tom field a b h = refl
