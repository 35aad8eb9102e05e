-- The text of an input value, in the syntax of documents but for texts, whose quotes and line feeds
-- stand as they are (GraphQL October 2021, 2.9 Input Values).
use Rattle.std.specs.Prelude.{◌++◌, ℕ, List, codes}
use Rattle.std.specs.List.{join_by}
use Rattle.graphql_scalars.specs.ScalarAnswers.{ScalarAnswer}
use Rattle.graphql_scalars.specs.ScalarText.{scalar_text}
use Rattle.graphql_values.specs.declared.input_value.InputValue.{InputValue, fold-InputValue}
use Rattle.graphql_values.specs.declared.input_value.InputValue.TheOpen.{InputValue-F}
use Rattle.graphql_values.specs.InputValues.{Placed, Pair}
use Rattle.graphql_values.specs.Steps.{Step, Null, Scalar, Enum, Variable, ListOpens, ListCloses}
use Rattle.graphql_values.specs.Steps.{ObjectOpens, ObjectCloses, Name, Gap}

module _ {S : Type 0} (answer : S → ScalarAnswer) where
  -- the text of one layer of a value, by the texts of its parts
  abbrev pub layer_text : InputValue-F S (List ℕ) → List ℕ
  layer_text InputValue-F.Null = codes "null"
  layer_text (InputValue-F.Scalar scalar) = scalar_text (answer scalar)
  layer_text (InputValue-F.Enum name) = name
  layer_text (InputValue-F.Variable name) = codes "$" ++ name
  layer_text (InputValue-F.List items) =
      codes "[" ++ join_by (λ x. x.item) (codes ", ") items ++ codes "]"
  layer_text (InputValue-F.Object pairs) =
      codes "{" ++ join_by (λ p. p.0.item ++ codes ": " ++ p.1.item) (codes ", ") pairs ++ codes "}"

  -- the text of a value, by what its scalars answer
  abbrev pub input_value_text : InputValue S → List ℕ
  input_value_text = fold-InputValue S (List ℕ) layer_text

  -- the text of a list's item
  abbrev pub item_text : Placed (InputValue S) → List ℕ
  item_text x = input_value_text x.item

  -- the text of a field: its name, a colon and a space, and the text of its value
  abbrev pub field_text : Pair (InputValue S) → List ℕ
  field_text p = p.0.item ++ codes ": " ++ input_value_text p.1.item

  -- the text of one step of a value: those of its steps, one after the other, are the text of the
  -- value
  abbrev pub step_text : Step S → List ℕ
  step_text Null = codes "null"
  step_text (Scalar scalar) = scalar_text (answer scalar)
  step_text (Enum name) = name
  step_text (Variable name) = codes "$" ++ name
  step_text ListOpens = codes "["
  step_text ListCloses = codes "]"
  step_text ObjectOpens = codes "{"
  step_text ObjectCloses = codes "}"
  step_text (Name name) = name ++ codes ": "
  step_text Gap = codes ", "
