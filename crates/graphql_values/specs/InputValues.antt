-- Input values without their places (GraphQL October 2021, 2.9 Input Values).
use Rattle.std.specs.Prelude.{map}
use Rattle.graphql_text.specs.declared.text.Text.{Text}
use Rattle.graphql_text.specs.declared.position.Span.{Span}
use Rattle.graphql_text.specs.declared.spanning.Spanning.{Spanning}
use Rattle.graphql_text.specs.Position.{origin}
use Rattle.graphql_values.specs.declared.input_value.InputValue.{InputValue, fold-InputValue}
use Rattle.graphql_values.specs.declared.input_value.InputValue.TheOpen.{InputValue-F}
use Rattle.graphql_values.specs.declared.input_value.InputValue.TheVariants as value

-- what is at a place in a text
abbrev pub Placed : Type 0 → Type 0
Placed A = Spanning A Span

-- a field's name and value, at their places
abbrev pub Pair : Type 0 → Type 0
Pair A = Placed Text × Placed A

-- in no text: the place is the empty part at the origin
abbrev pub unplaced : {A : Type 0} → A → Placed A
unplaced x = record { item = x; span = record { start = origin; end = origin } }

-- a field that stands in no text
abbrev pub unplaced_pair : {A : Type 0} → Text × A → Pair A
unplaced_pair p = (unplaced p.0, unplaced p.1)

module _ {S : Type 0} where
  -- one layer of a value whose parts have no places
  abbrev pub unlocated_layer : InputValue-F S (InputValue S) → InputValue S
  unlocated_layer InputValue-F.Null = value.Null
  unlocated_layer (InputValue-F.Scalar scalar) = value.Scalar scalar
  unlocated_layer (InputValue-F.Enum name) = value.Enum name
  unlocated_layer (InputValue-F.Variable name) = value.Variable name
  unlocated_layer (InputValue-F.List items) = value.List (map (λ x. unplaced x.item) items)
  unlocated_layer (InputValue-F.Object pairs) =
      value.Object (map (λ p. unplaced_pair (p.0.item, p.1.item)) pairs)

  -- the same value with every place at the origin
  abbrev pub unlocated : InputValue S → InputValue S
  unlocated = fold-InputValue S (InputValue S) unlocated_layer
