-- Laws of objects, in words of keys and fields (GraphQL October 2021, 7.2.2 Serialized Map
-- Ordering).
use Rattle.std.specs.Prelude.{◌≡◌, ◌↔◌, ℕ, Bool, true, List, [], ◌∷◌, ◌++◌, length, IsPermutation}
use Rattle.std.specs.Prelude.{if◌then◌else◌, Some, is_some}
use Rattle.std.specs.List.{Contains}
use Rattle.std.specs.Map.{keys_of}
use Rattle.std.specs.Str.{bytes_eq}
use Rattle.graphql_output_values.specs.Equality.{fields_equal}
use Rattle.graphql_output_values.specs.Objects.{Pair, HasDistinctKeys, field_value, with_field}
use Rattle.graphql_output_values.specs.Objects.{with_fields}

module _ {A : Type 0} (same : A → A → Bool) (fields others : List (Pair A)) where
  -- each field of the one stands in the other, with an equal value
  abbrev pub StandIn : Type 0
  StandIn = (key : List ℕ) (x : A) → Contains fields (key, x)
      → (y : A)
      × Contains others (key, y)
      × (same x y ≡ true)

  -- objects are equal exactly where they have equally many fields and each field of the one stands
  -- in the other
  abbrev pub EqualByFields : Type 0
  EqualByFields = HasDistinctKeys fields → HasDistinctKeys others
      → ((fields_equal same fields others ≡ true) ↔ ((length fields ≡ length others) × StandIn))

  -- objects of the same fields in another order are equal
  abbrev pub EqualInAnyOrder : Type 0
  EqualInAnyOrder =
      HasDistinctKeys fields → IsPermutation fields others → fields_equal same fields others ≡ true

-- an object that is made of pairs has distinct keys, whichever the pairs are
abbrev pub MadeDistinct : Type 0 → Type 0
MadeDistinct A = (pairs : List (Pair A)) → HasDistinctKeys (with_fields [] pairs)

-- a value that is put under a key stands there, and what stands under any other key stays
abbrev pub PutUnder : Type 0 → Type 0
PutUnder A =
    (fields : List (Pair A)) (key : List ℕ) (value : A) (other : List ℕ) →
    field_value (with_field fields key value) other
    ≡ (if bytes_eq other key then Some value else field_value fields other)

-- the keys keep their places, and a new one is the last
abbrev pub KeysKeepPlaces : Type 0 → Type 0
KeysKeepPlaces A =
    (fields : List (Pair A)) (key : List ℕ) (value : A) →
    keys_of (with_field fields key value)
    ≡ (if is_some (field_value fields key) then keys_of fields else keys_of fields ++ key ∷ [])
