-- Values, form by form (GraphQL October 2021, 7.1 Response Format).
use Rattle.std.specs.Prelude.{◌≡◌, Option, Some, None}
use Rattle.graphql_output_values.specs.Objects.{Pair}
use Rattle.graphql_output_values.specs.declared.object.Object.{Object}
use Rattle.graphql_output_values.specs.declared.value.Value.{Value, fold-Value}
use Rattle.graphql_output_values.specs.declared.value.Value.TheOpen.{Value-F, Object-F}
use Rattle.graphql_output_values.specs.declared.value.Value.TheVariants as value

-- what a value of this form holds, or nothing where the value has another form
abbrev pub Holds : {A B : Type 0} → (A → B) → B → Option A → Type 0
Holds form v (Some x) = v ≡ form x
Holds {A} form v None = (x : A) → v ≡ form x → ⊥

module _ {S T : Type 0} (turn : S → T) where
  -- one layer of a value, with its scalar mapped
  abbrev pub map_layer : Value-F S (Value T) (Object T) → Value T
  map_layer Value-F.Null = value.Null
  map_layer (Value-F.Scalar s) = value.Scalar (turn s)
  map_layer (Value-F.List items) = value.List items
  map_layer (Value-F.Object object) = value.Object object

  abbrev pub map_fields_layer : Object-F S (Value T) (Object T) → Object T
  map_fields_layer o = record { fields = o.fields }

  -- the value of the same shape with each scalar mapped
  abbrev pub map_scalars : Value S → Value T
  map_scalars = fold-Value S (Value T) (Object T) map_layer map_fields_layer

  -- the field of the same key
  abbrev pub map_field : Pair (Value S) → Pair (Value T)
  map_field field = (field.0, map_scalars field.1)

-- each answer is what the function gives
abbrev pub Turns : {A B : Type 0} → (A → B → Type 0) → (A → B) → Type 0
Turns answers f = (x : _) (y : _) → answers x y → y ≡ f x
