-- How many values stand in a value (GraphQL October 2021, 7.1 Response Format).
use Rattle.std.specs.Prelude.{ℕ, ◌+◌, sum}
use Rattle.std.specs.List.{sum_by}
use Rattle.graphql_output_values.specs.declared.value.Value.{Value, fold-Value}
use Rattle.graphql_output_values.specs.declared.value.Value.TheOpen.{Value-F, Object-F}

module _ {S : Type 0} where
  abbrev pub count_layer : Value-F S ℕ ℕ → ℕ
  count_layer Value-F.Null = 1
  count_layer (Value-F.Scalar s) = 1
  count_layer (Value-F.List counts) = 1 + sum counts
  count_layer (Value-F.Object counts) = 1 + counts

  abbrev pub count_fields_layer : Object-F S ℕ ℕ → ℕ
  count_fields_layer object = sum_by (λ field. field.1) object.fields

  -- the value itself and those within it, however deep
  abbrev pub value_count : Value S → ℕ
  value_count = fold-Value S ℕ ℕ count_layer count_fields_layer
