-- What is ahead of a walk over a value: the steps of what it has yet to do.
use Rattle.std.specs.Prelude.{◌≡◌, List, [], ◌∷◌, ◌++◌}
use Rattle.std.specs.List.{flat_map}
use Rattle.graphql_output_values.specs.Steps as spec
use Rattle.graphql_output_values.specs.Steps.{Gap, ListCloses, ObjectCloses, field_steps}
use Rattle.graphql_output_values.specs.Steps.{fields_steps, items_steps, steps}
use Rattle.graphql_output_values.specs.declared.walk.Step.{Step}
use Rattle.graphql_output_values.specs.declared.walk.Step.TheVariants as step
use Rattle.graphql_output_values.specs.declared.walk.Task.{Task}
use Rattle.graphql_output_values.specs.declared.walk.Task.TheVariants as task
use Rattle.graphql_output_values.specs.declared.walk.Walk.{Walk}

module _ {S : Type 0} where
  -- the step that is told
  abbrev pub told_step : Step S → spec.Step S
  told_step step.Null = spec.Null
  told_step (step.Scalar s) = spec.Scalar s.now
  told_step step.ListOpens = spec.ListOpens
  told_step step.ListCloses = spec.ListCloses
  told_step step.ObjectOpens = spec.ObjectOpens
  told_step step.ObjectCloses = spec.ObjectCloses
  told_step (step.Key key) = spec.Key key.now
  told_step step.Gap = spec.Gap

  abbrev pub task_steps : Task S → List (spec.Step S)
  task_steps (task.Value v) = steps v.now
  task_steps (task.Items items) = items_steps items.now
  task_steps (task.MoreItems items) =
      flat_map (λ item. Gap ∷ steps item) items.now ++ ListCloses ∷ []
  task_steps (task.Fields fields) = fields_steps fields.now
  task_steps (task.MoreFields fields) =
      flat_map (λ field. Gap ∷ field_steps steps field) fields.now ++ ObjectCloses ∷ []

  -- the tasks on top come first
  abbrev pub pending : List (Task S) → List (spec.Step S)
  pending [] = []
  pending (t ∷ ts) = pending ts ++ task_steps t

  -- the first of these steps is told, and the others are ahead
  abbrev pub Opens : List (spec.Step S) → Step S → List (Task S) → List (Task S) → Type 0
  Opens these first old new = these ++ pending old ≡ told_step first ∷ pending new

  -- the steps that a walk has yet to tell
  abbrev pub steps_ahead : Walk S → List (spec.Step S)
  steps_ahead walk = pending walk.tasks
