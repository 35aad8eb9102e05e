-- The text of a value (GraphQL October 2021, 7.1 Response Format): `null`, `[a, b]`, `{"k": v, "l":
-- w}`.
use Rattle.std.specs.Prelude.{ℕ, List, ◌++◌, codes}
use Rattle.std.specs.List.{join_by}
use Rattle.graphql_scalars.specs.ScalarAnswers.{ScalarAnswer}
use Rattle.graphql_scalars.specs.ScalarText.{quoted_text, scalar_text}
use Rattle.graphql_output_values.specs.Objects.{Pair}
use Rattle.graphql_output_values.specs.Steps.{Step, Null, Scalar, ListOpens, ListCloses}
use Rattle.graphql_output_values.specs.Steps.{ObjectOpens, ObjectCloses, Key, Gap}
use Rattle.graphql_output_values.specs.declared.value.Value.{Value, fold-Value}
use Rattle.graphql_output_values.specs.declared.value.Value.TheOpen.{Value-F, Object-F}

-- a key between quotes, as it stands, a colon, a space and the text of its value
abbrev pub field_text : {A : Type 0} → (A → List ℕ) → Pair A → List ℕ
field_text text field = quoted_text field.0 ++ (codes ": " ++ text field.1)

-- an object's fields between braces, by the text of a value
abbrev pub fields_text : {A : Type 0} → (A → List ℕ) → List (Pair A) → List ℕ
fields_text text fields = codes "{" ++ (join_by (field_text text) (codes ", ") fields ++ codes "}")

module _ {S : Type 0} (answer : S → ScalarAnswer) where
  -- the text of one layer of a value, by the texts of its parts
  abbrev pub layer_text : Value-F S (List ℕ) (List ℕ) → List ℕ
  layer_text Value-F.Null = codes "null"
  layer_text (Value-F.Scalar s) = scalar_text (answer s)
  layer_text (Value-F.List texts) =
      codes "[" ++ (join_by (λ text. text) (codes ", ") texts ++ codes "]")
  layer_text (Value-F.Object text) = text

  abbrev pub object_layer_text : Object-F S (List ℕ) (List ℕ) → List ℕ
  object_layer_text object = fields_text (λ text. text) object.fields

  -- the text of a value, by what its scalars answer
  abbrev pub value_text : Value S → List ℕ
  value_text = fold-Value S (List ℕ) (List ℕ) layer_text object_layer_text

  -- the text of one step of a value: those of its steps, one after the other, are the text of the
  -- value
  abbrev pub step_text : Step S → List ℕ
  step_text Null = codes "null"
  step_text (Scalar s) = scalar_text (answer s)
  step_text ListOpens = codes "["
  step_text ListCloses = codes "]"
  step_text ObjectOpens = codes "{"
  step_text ObjectCloses = codes "}"
  step_text (Key key) = quoted_text key ++ codes ": "
  step_text Gap = codes ", "
