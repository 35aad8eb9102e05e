-- Where two data differ (GraphQL October 2021, 6.4.3 Value Completion, MergeSelectionSets).
use Rattle.std.specs.Prelude.{◌≡◌, ◌≢◌, ℕ, false, Bool, List, [], ◌∷◌, Some, length, slice_get}
use Rattle.graphql_names.specs.Names.{Bytes}
use Rattle.graphql_output_values.specs.Objects.{Pair, field_value}
use Rattle.graphql_output_values.specs.declared.object.Object.{Object}
use Rattle.graphql_output_values.specs.declared.value.Value.{Value, out-Value}
use Rattle.graphql_output_values.specs.declared.value.Value.TheOpen.{Value-F}
use Rattle.graphql_output_values.specs.declared.value.Value.TheVariants as value

module _ {S : Type 0} (same : S → S → Bool) where
  -- one layer of a value and one of another that no join has: neither is null, and they are scalars
  -- that are not equal, lists of other lengths, or of two kinds
  abbrev pub Apart : Value-F S (Value S) (Object S) → Value-F S (Value S) (Object S) → Type 0
  Apart Value-F.Null y = ⊥
  Apart x Value-F.Null = ⊥
  Apart (Value-F.Scalar s) (Value-F.Scalar t) = same s t ≡ false
  Apart (Value-F.List xs) (Value-F.List ys) = length xs ≢ length ys
  Apart (Value-F.Object p) (Value-F.Object q) = ⊥
  Apart x y = Unit {0}

  -- two values differ below these response keys: they themselves, two items of one place, or what
  -- both have under a key
  pub data DifferAt : List Bytes → Value S → Value S → Type 0 where
    here : (x y : Value S) → Apart (out-Value S x) (out-Value S y) → DifferAt [] x y
    in_items : (path : List Bytes) (xs ys : List (Value S)) (place : ℕ) (x y : Value S)
        → slice_get xs place ≡ Some x → slice_get ys place ≡ Some y → DifferAt path x y
        → DifferAt path (value.List xs) (value.List ys)
    under_key : (path : List Bytes) (key : Bytes) (xs ys : List (Pair (Value S))) (x y : Value S)
        → field_value xs key ≡ Some x → field_value ys key ≡ Some y → DifferAt path x y
        → DifferAt (key ∷ path) (value.Object (record { fields = xs }))
        (value.Object (record { fields = ys }))
