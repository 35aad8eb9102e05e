-- Laws of distinct keys at every depth (GraphQL October 2021, 7.2.2 Serialized Map Ordering).
use Rattle.std.specs.Prelude.{◌≡◌, ◌↔◌, ℕ, List, [], IfSome}
use Rattle.std.specs.List.{All}
use Rattle.std.specs.Map.{keys_of, set_value, values_of}
use Rattle.std.specs.Str.{bytes_eq}
use Rattle.graphql_output_values.specs.DistinctKeys.{keys_in, HasDistinctKeysThroughout}
use Rattle.graphql_output_values.specs.DistinctKeys.{ObjectHasDistinctKeysThroughout}
use Rattle.graphql_output_values.specs.Lending.{set_value_at}
use Rattle.graphql_output_values.specs.Objects.{Pair, field_value, with_fields}
use Rattle.graphql_output_values.specs.Values.{map_scalars}
use Rattle.graphql_output_values.specs.declared.object.Object.{Object}
use Rattle.graphql_output_values.specs.declared.value.Value.{Value}
use Rattle.graphql_output_values.specs.declared.value.Value.TheVariants as value

module _ (S : Type 0) where
  -- `null` and scalars hold no object; a list has distinct keys throughout where its items do, and
  -- the value of an object where the object does
  abbrev pub DistinctByForms : Type 0
  DistinctByForms =
      HasDistinctKeysThroughout {S = S} value.Null
      × ((scalar : S) → HasDistinctKeysThroughout (value.Scalar scalar))
      × ((items : List (Value S))
      → HasDistinctKeysThroughout (value.List items) ↔ All HasDistinctKeysThroughout items)
      × ((object : Object S)
      → HasDistinctKeysThroughout (value.Object object)
      ↔ ObjectHasDistinctKeysThroughout object)

  -- the value under a key of such an object is such a value
  abbrev pub DistinctUnderKeys : Type 0
  DistinctUnderKeys = (object : Object S) (key : List ℕ) → ObjectHasDistinctKeysThroughout object
      → IfSome (field_value object.fields key) HasDistinctKeysThroughout

  -- an object stays such where such a value is written under a key that it has
  abbrev pub DistinctOnceWritten : Type 0
  DistinctOnceWritten =
      (object : Object S) (key : List ℕ) (written : Value S) →
      ObjectHasDistinctKeysThroughout object → HasDistinctKeysThroughout written
      → ObjectHasDistinctKeysThroughout
      (record { fields = set_value (bytes_eq key) object.fields written })

  -- a value that is written at a place leaves the keys as they are, and the object stays such where
  -- the value is
  abbrev pub KeysStayInPlace : Type 0
  KeysStayInPlace =
      (object : Object S) (place : ℕ) (written : Value S) →
      let fields = set_value_at place written object.fields in
      (keys_of fields ≡ keys_of object.fields)
      × (ObjectHasDistinctKeysThroughout object → HasDistinctKeysThroughout written
      → ObjectHasDistinctKeysThroughout (record { fields = fields }))

  -- an object of such values is such, whichever the pairs that it is made of
  abbrev pub MadeDistinctThroughout : Type 0
  MadeDistinctThroughout =
      (pairs : List (Pair (Value S))) → All HasDistinctKeysThroughout (values_of pairs)
      → ObjectHasDistinctKeysThroughout (record { fields = with_fields [] pairs })

-- mapping the scalars of a value keeps the keys of each object in it
abbrev pub MappedKeepsKeys : Type 0 → Type 0 → Type 0
MappedKeepsKeys S T = (turn : S → T) (v : Value S) → keys_in (map_scalars turn v) ≡ keys_in v
