-- Objects: fields by their keys (GraphQL October 2021, 7.1 Response Format, 7.2.2 Serialized Map
-- Ordering).
use Rattle.std.specs.Prelude.{ℕ, List, [], ◌∷◌, Option, if◌then◌else◌, fold}
use Rattle.std.specs.List.{IsDistinct}
use Rattle.std.specs.Map.{lookup, keys_of}
use Rattle.std.specs.Str.{bytes_eq}

-- a key, and the value under it
abbrev pub Pair : Type 0 → Type 0
Pair A = List ℕ × A

module _ {A : Type 0} where
  -- no two fields have one key
  abbrev pub HasDistinctKeys : List (Pair A) → Type 0
  HasDistinctKeys fields = IsDistinct bytes_eq (keys_of fields)

  -- the value of the first field of this key
  abbrev pub field_value : List (Pair A) → List ℕ → Option A
  field_value fields key = lookup (bytes_eq key) fields

  -- the fields with this value under this key: at the place of the field that has the key, else
  -- last
  abbrev pub with_field : List (Pair A) → List ℕ → A → List (Pair A)
  with_field [] key value = (key, value) ∷ []
  with_field (field ∷ fields) key value = if bytes_eq key field.0 then (field.0, value) ∷ fields
      else field ∷ with_field fields key value

  -- the fields that are left once each of these pairs is put in turn: a later pair of a key takes
  -- the place of an earlier one
  abbrev pub with_fields : List (Pair A) → List (Pair A) → List (Pair A)
  with_fields fields pairs = fold (λ done p. with_field done p.0 p.1) fields pairs
