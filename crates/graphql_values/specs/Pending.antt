-- What is ahead of a walk over an input value: the steps of what it has yet to do (GraphQL October
-- 2021, 2.9 Input Values).
use Rattle.std.specs.Prelude.{◌≡◌, List, [], ◌∷◌, ◌++◌}
use Rattle.std.specs.List.{flat_map}
use Rattle.graphql_values.specs.Steps as spec
use Rattle.graphql_values.specs.Steps.{Gap, ListCloses, ObjectCloses, item_steps, field_steps}
use Rattle.graphql_values.specs.Steps.{items_steps, fields_steps, steps}
use Rattle.graphql_values.specs.declared.input_value.walk.Step.{Step}
use Rattle.graphql_values.specs.declared.input_value.walk.Step.TheVariants as step
use Rattle.graphql_values.specs.declared.input_value.walk.Task.{Task}
use Rattle.graphql_values.specs.declared.input_value.walk.Task.TheVariants as task
use Rattle.graphql_values.specs.declared.input_value.walk.Walk.{Walk}

-- what tasks stand for, where those on top come first
abbrev pub pending : {T E : Type 0} → (T → List E) → List T → List E
pending does [] = []
pending does (t ∷ ts) = pending does ts ++ does t

module _ {S : Type 0} where
  -- the step that is told
  abbrev pub told_step : Step S → spec.Step S
  told_step step.Null = spec.Null
  told_step (step.Scalar scalar) = spec.Scalar scalar.now
  told_step (step.Enum name) = spec.Enum name.now
  told_step (step.Variable name) = spec.Variable name.now
  told_step step.ListOpens = spec.ListOpens
  told_step step.ListCloses = spec.ListCloses
  told_step step.ObjectOpens = spec.ObjectOpens
  told_step step.ObjectCloses = spec.ObjectCloses
  told_step (step.Name name) = spec.Name name.now
  told_step step.Gap = spec.Gap

  -- the steps that a task stands for
  abbrev pub task_steps : Task S → List (spec.Step S)
  task_steps (task.Value value) = steps value.now
  task_steps (task.Items items) = items_steps items.now
  task_steps (task.MoreItems items) =
      flat_map (λ x. Gap ∷ item_steps steps x) items.now ++ ListCloses ∷ []
  task_steps (task.Fields pairs) = fields_steps pairs.now
  task_steps (task.MoreFields pairs) =
      flat_map (λ p. Gap ∷ field_steps steps p) pairs.now ++ ObjectCloses ∷ []

  -- the first of these steps is told, and the others are ahead
  abbrev pub Opens : List (spec.Step S) → Step S → List (Task S) → List (Task S) → Type 0
  Opens these first old new = these ++ pending task_steps old ≡ told_step first
      ∷ pending task_steps new

  -- the steps that a walk has yet to tell
  abbrev pub steps_ahead : Walk S → List (spec.Step S)
  steps_ahead walk = pending task_steps walk.tasks
