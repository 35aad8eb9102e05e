-- What JSON keeps of values (GraphQL October 2021, 7.2 Serialization Format; RFC 8259).
use Rattle.std.specs.Prelude.{◌≡◌, ◌≤◌, ℕ, suc, max, Bool, true, IsTrue, List, [], ◌∷◌, map, fold}
use Rattle.std.specs.Prelude.{Some, option_map, unwrap_or}
use Rattle.std.specs.List.{list_all}
use Rattle.serde_json.specs.Data.{Data, null, boolean, number, string, array, object, Members}
use Rattle.serde_json.specs.Data.{no_members, put}
use Rattle.serde_json.specs.Find.{of_integer, get}
use Rattle.serde_json.specs.View.{items_of}
use Rattle.serde_json.specs.Read.{read, max_depth}
use Rattle.graphql_output_values.specs.declared.object.Object.{Object}
use Rattle.graphql_output_values.specs.declared.value.Value.{Value, fold-Value}
use Rattle.graphql_output_values.specs.declared.value.Value.TheOpen.{Value-F, Object-F}
use Rattle.graphql_output_values.specs.declared.value.Value.TheVariants as value
use Rattle.graphql_output_values.specs.Objects.{Pair, HasDistinctKeys, field_value}
use Rattle.graphql_json.specs.Json.{json}
use Rattle.graphql_json.specs.Numbers.{has_32_bits}
use Rattle.graphql_scalars.specs.ScalarAnswers.{ScalarAnswer, as_int, as_bool, as_text}

-- the members with these fields put in, one by one: of fields of one key the last stays
abbrev pub with_fields : Members → List (Pair Data) → Members
with_fields members fields = fold (λ ms p. put p.0 p.1 ms) members fields

-- the greatest of these, or 0
abbrev pub greatest : List ℕ → ℕ
greatest [] = 0
greatest (n ∷ ns) = max n (greatest ns)

module _ {S : Type 0} where
  -- one layer of a value, of whose parts it stands how deep they nest, and an object
  abbrev pub nesting_layer : Value-F S ℕ ℕ → ℕ
  nesting_layer Value-F.Null = 0
  nesting_layer (Value-F.Scalar s) = 0
  nesting_layer (Value-F.List items) = suc (greatest items)
  nesting_layer (Value-F.Object o) = o

  abbrev pub nesting_fields : Object-F S ℕ ℕ → ℕ
  nesting_fields o = suc (greatest (map (λ p. p.1) o.fields))

  -- how deep lists and objects nest in a value
  abbrev pub nesting : Value S → ℕ
  nesting = fold-Value S ℕ ℕ nesting_layer nesting_fields

module _ {S : Type 0} (answer : S → ScalarAnswer) where
  -- the same of whether each integer has 32 bits (3.5.1 Int)
  abbrev pub fits_layer : Value-F S Bool Bool → Bool
  fits_layer Value-F.Null = true
  fits_layer (Value-F.Scalar s) = unwrap_or (option_map has_32_bits (as_int (answer s))) true
  fits_layer (Value-F.List items) = list_all (λ fits. fits) items
  fits_layer (Value-F.Object o) = o

  abbrev pub fits_fields : Object-F S Bool Bool → Bool
  fits_fields o = list_all (λ p. p.1) o.fields

  -- each integer in a value has 32 bits
  abbrev pub fits_32_bits : Value S → Bool
  fits_32_bits = fold-Value S Bool Bool fits_layer fits_fields

module _ {S : Type 0} (answer : S → ScalarAnswer) where
  -- a scalar is asked for an integer, then for a boolean, then for a text, and is null where it has
  -- none of them
  abbrev pub data_of_scalar : S → Data
  data_of_scalar s =
      unwrap_or (option_map (λ z. number (of_integer z)) (as_int (answer s))) (unwrap_or (option_map
      boolean (as_bool (answer s))) (unwrap_or (option_map string (as_text (answer s))) null))

  -- one layer, of whose parts the data stands, and an object
  abbrev pub data_layer : Value-F S Data Data → Data
  data_layer Value-F.Null = null
  data_layer (Value-F.Scalar s) = data_of_scalar s
  data_layer (Value-F.List items) = array (items_of items)
  data_layer (Value-F.Object o) = o

  abbrev pub data_fields : Object-F S Data Data → Data
  data_fields o = object (with_fields no_members o.fields)

  -- the data that a value is
  abbrev pub data_of_value : Value S → Data
  data_of_value = fold-Value S Data Data data_layer data_fields

  -- what is written of a value is read as the value's data, unless it nests deeper than is read, or
  -- an integer has more than 32 bits
  abbrev pub JsonReadsBack : Type 0
  JsonReadsBack = (v : Value S) → nesting v ≤ max_depth → IsTrue (fits_32_bits answer v)
      → read (json answer v) ≡ Some (data_of_value v)

  -- where an object's keys are distinct, each stands for its own value (7.2.2 Serialized Map
  -- Ordering)
  abbrev pub KeysKeepValues : Type 0
  KeysKeepValues = (o : Object S) (key : List ℕ) → HasDistinctKeys o.fields
      → get key
      (data_of_value (value.Object o)) ≡ option_map data_of_value (field_value o.fields key)
