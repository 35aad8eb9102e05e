-- What a look-up finds in an object (GraphQL October 2021, 7.1 Response Format).
use Rattle.std.specs.Prelude.{◌≡◌, ℕ, List, Option}
use Rattle.std.specs.Borrow.{Bor}
use Rattle.std.specs.Option.{option_copied}
use Rattle.std.specs.HashMap.{HashMap, get_by}
use Rattle.std.specs.Str.{bytes_eq}
use Rattle.graphql_output_values.specs.Objects.{Pair, field_value}
use Rattle.graphql_output_values.specs.declared.lookup.Lookup.{Lookup}
use Rattle.graphql_output_values.specs.declared.lookup.Lookup.TheVariants as lookup
use Rattle.graphql_output_values.specs.declared.value.Value.{Value}

module _ {A H : Type 0} where
  -- the value that an index has under a key
  abbrev pub indexed : HashMap (Bor (List ℕ)) (Bor A) H → List ℕ → Option A
  indexed values key = option_copied (get_by (λ k. bytes_eq key k.now) values)

  -- an index has under each key what the fields have
  abbrev pub IsIndex : HashMap (Bor (List ℕ)) (Bor A) H → List (Pair A) → Type 0
  IsIndex values fields = (key : List ℕ) → indexed values key ≡ field_value fields key

module _ {S : Type 0} where
  -- the value that a look-up finds under a key
  abbrev pub value_under : Lookup S → List ℕ → Option (Value S)
  value_under (lookup.Index values) key = indexed values key
  value_under (lookup.Scan object) key = field_value object.now.fields key

  -- it finds what the fields have
  abbrev pub IsLookupOf : Lookup S → List (Pair (Value S)) → Type 0
  IsLookupOf where_found fields = (key : List ℕ)
      → value_under where_found key ≡ field_value fields key
