-- The steps of a value: what a walk over it tells, from its start to its end.
use Rattle.std.specs.Prelude.{ℕ, List, [], ◌∷◌, ◌++◌}
use Rattle.std.specs.List.{join_by}
use Rattle.graphql_output_values.specs.Objects.{Pair}
use Rattle.graphql_output_values.specs.declared.value.Value.{Value, fold-Value}
use Rattle.graphql_output_values.specs.declared.value.Value.TheOpen.{Value-F, Object-F}

-- one step: `null` or a scalar, where a list or an object opens and closes, the key of the value
-- that comes next, or what stands between two parts
pub data Step (S : Type 0) : Type 0 where
  Null : Step S
  Scalar : S → Step S
  ListOpens : Step S
  ListCloses : Step S
  ObjectOpens : Step S
  ObjectCloses : Step S
  Key : List ℕ → Step S
  Gap : Step S

module _ {S : Type 0} where
  -- a field's key, and then the steps of its value
  abbrev pub field_steps : {A : Type 0} → (A → List (Step S)) → Pair A → List (Step S)
  field_steps steps_of field = Key field.0 ∷ steps_of field.1

  -- the steps of one layer of a value, by those of its parts
  abbrev pub steps_layer : Value-F S (List (Step S)) (List (Step S)) → List (Step S)
  steps_layer Value-F.Null = Null ∷ []
  steps_layer (Value-F.Scalar s) = Scalar s ∷ []
  steps_layer (Value-F.List parts) =
      ListOpens ∷ (join_by (λ part. part) (Gap ∷ []) parts ++ ListCloses ∷ [])
  steps_layer (Value-F.Object inner) = inner

  abbrev pub object_steps_layer : Object-F S (List (Step S)) (List (Step S)) → List (Step S)
  object_steps_layer object = ObjectOpens
      ∷ (join_by (field_steps (λ part. part)) (Gap ∷ []) object.fields ++ ObjectCloses ∷ [])

  -- the steps of a value, in the order of its text
  abbrev pub steps : Value S → List (Step S)
  steps = fold-Value S (List (Step S)) (List (Step S)) steps_layer object_steps_layer

  -- the steps of items, with a gap between any two, and the end of their list
  abbrev pub items_steps : List (Value S) → List (Step S)
  items_steps items = join_by steps (Gap ∷ []) items ++ ListCloses ∷ []

  -- the steps of fields, with a gap between any two, and the end of their object
  abbrev pub fields_steps : List (Pair (Value S)) → List (Step S)
  fields_steps fields = join_by (field_steps steps) (Gap ∷ []) fields ++ ObjectCloses ∷ []
