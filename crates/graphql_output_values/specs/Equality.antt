-- Equality of values: lists by their places, objects by their keys, whose order says nothing
-- (GraphQL October 2021, 7.2.2 Serialized Map Ordering).
use Rattle.std.specs.Prelude.{ℕ, Bool, true, false, ◌&&◌, List, [], ◌∷◌, Option, Some, None}
use Rattle.std.specs.List.{list_all}
use Rattle.std.specs.Map.{keys_of}
use Rattle.graphql_output_values.specs.Objects.{Pair, field_value}
use Rattle.graphql_output_values.specs.declared.object.Object.{Object}
use Rattle.graphql_output_values.specs.declared.value.Value.{Value, fold-Value, out-Value}
use Rattle.graphql_output_values.specs.declared.value.Value.TheOpen.{Value-F, Object-F}

module _ {A B : Type 0} (same : A → B → Bool) where
  -- under one key: nothing in both objects, or equal values
  abbrev pub agree : Option A → Option B → Bool
  agree None None = true
  agree None (Some y) = false
  agree (Some x) None = false
  agree (Some x) (Some y) = same x y

  -- two objects agree under a key
  abbrev pub agree_under : List (Pair A) → List (Pair B) → List ℕ → Bool
  agree_under fields others key = agree (field_value fields key) (field_value others key)

  -- under each key of either object
  abbrev pub fields_equal : List (Pair A) → List (Pair B) → Bool
  fields_equal fields others = list_all (agree_under fields others) (keys_of fields)
      && list_all (agree_under fields others) (keys_of others)

  -- as many items, and equal ones place by place
  abbrev pub items_equal : List A → List B → Bool
  items_equal [] [] = true
  items_equal [] (y ∷ ys) = false
  items_equal (x ∷ xs) [] = false
  items_equal (x ∷ xs) (y ∷ ys) = same x y && items_equal xs ys

module _ {S : Type 0} (same : S → S → Bool) where
  -- one layer of a value against one of another: two of one form, equal in what they hold
  abbrev pub forms_equal : Value-F S (Value S → Bool) (Object S → Bool)
      → Value-F S (Value S) (Object S) → Bool
  forms_equal Value-F.Null Value-F.Null = true
  forms_equal Value-F.Null (Value-F.Scalar t) = false
  forms_equal Value-F.Null (Value-F.List ys) = false
  forms_equal Value-F.Null (Value-F.Object p) = false
  forms_equal (Value-F.Scalar s) Value-F.Null = false
  forms_equal (Value-F.Scalar s) (Value-F.Scalar t) = same s t
  forms_equal (Value-F.Scalar s) (Value-F.List ys) = false
  forms_equal (Value-F.Scalar s) (Value-F.Object p) = false
  forms_equal (Value-F.List xs) Value-F.Null = false
  forms_equal (Value-F.List xs) (Value-F.Scalar t) = false
  forms_equal (Value-F.List xs) (Value-F.List ys) = items_equal (λ equals y. equals y) xs ys
  forms_equal (Value-F.List xs) (Value-F.Object p) = false
  forms_equal (Value-F.Object o) Value-F.Null = false
  forms_equal (Value-F.Object o) (Value-F.Scalar t) = false
  forms_equal (Value-F.Object o) (Value-F.List ys) = false
  forms_equal (Value-F.Object o) (Value-F.Object p) = o p

  abbrev pub equal_layer : Value-F S (Value S → Bool) (Object S → Bool) → Value S → Bool
  equal_layer layer other = forms_equal layer (out-Value S other)

  abbrev pub equal_fields : Object-F S (Value S → Bool) (Object S → Bool) → Object S → Bool
  equal_fields layer other = fields_equal (λ equals y. equals y) layer.fields other.fields

  -- two values are equal, by an equality of scalars
  abbrev pub equal : Value S → Value S → Bool
  equal = fold-Value S (Value S → Bool) (Object S → Bool) equal_layer equal_fields

  abbrev pub equal_objects : Object S → Object S → Bool
  equal_objects o p = fields_equal equal o.fields p.fields
