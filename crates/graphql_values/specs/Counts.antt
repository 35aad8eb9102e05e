-- How many values stand in an input value (GraphQL October 2021, 2.9 Input Values).
use Rattle.std.specs.Prelude.{ℕ, ◌+◌}
use Rattle.std.specs.List.{sum_by}
use Rattle.graphql_values.specs.declared.input_value.InputValue.{InputValue, fold-InputValue}
use Rattle.graphql_values.specs.declared.input_value.InputValue.TheOpen.{InputValue-F}

module _ {S : Type 0} where
  -- the value of one layer, and those that its parts have
  abbrev pub count_layer : InputValue-F S ℕ → ℕ
  count_layer (InputValue-F.List items) = 1 + sum_by (λ x. x.item) items
  count_layer (InputValue-F.Object pairs) = 1 + sum_by (λ p. p.1.item) pairs
  count_layer _ = 1

  -- the value itself and those within it, however deep
  abbrev pub value_count : InputValue S → ℕ
  value_count = fold-InputValue S ℕ count_layer
