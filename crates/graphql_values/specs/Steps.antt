-- The steps of an input value: what a walk over it tells, from its start to its end (GraphQL
-- October 2021, 2.9 Input Values).
use Rattle.std.specs.Prelude.{List, [], ◌∷◌, ◌++◌}
use Rattle.std.specs.List.{join_by}
use Rattle.graphql_text.specs.declared.text.Text.{Text}
use Rattle.graphql_values.specs.declared.input_value.InputValue.{InputValue, fold-InputValue}
use Rattle.graphql_values.specs.declared.input_value.InputValue.TheOpen.{InputValue-F}
use Rattle.graphql_values.specs.InputValues.{Placed, Pair}

-- one step: a value without parts, where a list or an input object opens and closes, the name of
-- the field whose value comes next, or what stands between two parts
pub data Step (S : Type 0) : Type 0 where
  Null : Step S
  Scalar : S → Step S
  Enum : Text → Step S
  Variable : Text → Step S
  ListOpens : Step S
  ListCloses : Step S
  ObjectOpens : Step S
  ObjectCloses : Step S
  Name : Text → Step S
  Gap : Step S

module _ {S : Type 0} where
  -- the steps of an item are those of its value; a field's are its name, and then those of its
  -- value
  abbrev pub item_steps : {A : Type 0} → (A → List (Step S)) → Placed A → List (Step S)
  item_steps steps_of x = steps_of x.item

  abbrev pub field_steps : {A : Type 0} → (A → List (Step S)) → Pair A → List (Step S)
  field_steps steps_of p = Name p.0.item ∷ steps_of p.1.item

  -- the steps of one layer of a value, by those of its parts
  abbrev pub steps_layer : InputValue-F S (List (Step S)) → List (Step S)
  steps_layer InputValue-F.Null = Null ∷ []
  steps_layer (InputValue-F.Scalar scalar) = Scalar scalar ∷ []
  steps_layer (InputValue-F.Enum name) = Enum name ∷ []
  steps_layer (InputValue-F.Variable name) = Variable name ∷ []
  steps_layer (InputValue-F.List items) =
      ListOpens ∷ (join_by (item_steps (λ part. part)) (Gap ∷ []) items ++ ListCloses ∷ [])
  steps_layer (InputValue-F.Object pairs) =
      ObjectOpens ∷ (join_by (field_steps (λ part. part)) (Gap ∷ []) pairs ++ ObjectCloses ∷ [])

  -- the steps of a value, in the order of its text
  abbrev pub steps : InputValue S → List (Step S)
  steps = fold-InputValue S (List (Step S)) steps_layer

  -- the steps of items, with a gap between any two, and the end of their list
  abbrev pub items_steps : List (Placed (InputValue S)) → List (Step S)
  items_steps items = join_by (item_steps steps) (Gap ∷ []) items ++ ListCloses ∷ []

  -- the steps of fields, with a gap between any two, and the end of their input object
  abbrev pub fields_steps : List (Pair (InputValue S)) → List (Step S)
  fields_steps pairs = join_by (field_steps steps) (Gap ∷ []) pairs ++ ObjectCloses ∷ []
