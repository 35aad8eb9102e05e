-- Distinct keys at every depth of a value (GraphQL October 2021, 7.2.2 Serialized Map Ordering).
use Rattle.std.specs.Prelude.{ℕ, List, [], ◌∷◌}
use Rattle.std.specs.List.{All, IsDistinct, flat_map}
use Rattle.std.specs.Map.{keys_of, values_of}
use Rattle.std.specs.Str.{bytes_eq}
use Rattle.graphql_output_values.specs.Objects.{HasDistinctKeys}
use Rattle.graphql_output_values.specs.declared.object.Object.{Object}
use Rattle.graphql_output_values.specs.declared.value.Value.{Value, fold-Value}
use Rattle.graphql_output_values.specs.declared.value.Value.TheOpen.{Value-F, Object-F}

-- the keys of each of some objects
abbrev pub KeyLists : Type 0
KeyLists = List (List (List ℕ))

module _ {S : Type 0} where
  -- one layer of a value, with the keys of the objects in its parts, and an object
  abbrev pub keys_layer : Value-F S KeyLists KeyLists → KeyLists
  keys_layer Value-F.Null = []
  keys_layer (Value-F.Scalar s) = []
  keys_layer (Value-F.List items) = flat_map (λ keys. keys) items
  keys_layer (Value-F.Object keys) = keys

  abbrev pub keys_fields_layer : Object-F S KeyLists KeyLists → KeyLists
  keys_fields_layer object = keys_of object.fields ∷ flat_map (λ field. field.1) object.fields

  -- the keys of each object in a value, however deep
  abbrev pub keys_in : Value S → KeyLists
  keys_in = fold-Value S KeyLists KeyLists keys_layer keys_fields_layer

  -- each object in the value, however deep, has distinct keys
  abbrev pub HasDistinctKeysThroughout : Value S → Type 0
  HasDistinctKeysThroughout v = All (IsDistinct bytes_eq) (keys_in v)

  -- the object's own keys are distinct, and so are those of each object in its values
  abbrev pub ObjectHasDistinctKeysThroughout : Object S → Type 0
  ObjectHasDistinctKeysThroughout object =
      HasDistinctKeys object.fields × All HasDistinctKeysThroughout (values_of object.fields)
