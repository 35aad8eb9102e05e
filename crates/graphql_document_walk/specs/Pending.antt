-- What is ahead of a walk: the events of its tasks, the last task first.
use Rattle.std.specs.Prelude.{◌≡◌, ℕ, ◌+◌, ◌⊎◌, List, [], ◌∷◌, ◌++◌}
use Rattle.std.specs.List.{flat_map}
use Rattle.std.specs.Option.{option_map}
use Rattle.graphql_schema.specs.Declarations.{Declarations, declarations_of}
use Rattle.graphql_document_walk.specs.declared.walk.tasks.Part.{Part}
use Rattle.graphql_document_walk.specs.declared.walk.tasks.Part.TheVariants as part
use Rattle.graphql_document_walk.specs.declared.walk.tasks.Side.{Side}
use Rattle.graphql_document_walk.specs.declared.walk.tasks.Side.TheVariants as side
use Rattle.graphql_document_walk.specs.declared.walk.tasks.Task.{Task}
use Rattle.graphql_document_walk.specs.declared.walk.tasks.Work.{Work}
use Rattle.graphql_document_walk.specs.declared.walk.tasks.Work.TheVariants as work
use Rattle.graphql_document_walk.specs.declared.walk.Walk.{Walk}
use Rattle.graphql_occurrences.specs.Events.{seen_event, through_each, events, definition_events}
use Rattle.graphql_occurrences.specs.Events.{variable_events}
use Rattle.graphql_occurrences.specs.Events.{directives_events, arguments_events, set_events}
use Rattle.graphql_occurrences.specs.Events.{selection_events, value_events, item_events}
use Rattle.graphql_occurrences.specs.Events.{pair_events}
use Rattle.graphql_occurrences.specs.Lent.{arguments_lent, node_of, around_of, owner_of}
use Rattle.graphql_occurrences.specs.Nodes.{Enter, Leave}
use Rattle.graphql_occurrences.specs.Nodes as spec

module _ {S : Type 0} where
  abbrev pub side_event : Side → spec.Node S → spec.Event S
  side_event side.Enter node = Enter node
  side_event side.Leave node = Leave node

  -- with one more task, how many parts stand on top of the last event, where so many did before
  abbrev pub part_after : ℕ → Work S → ℕ
  part_after n (work.Tell _ _) = 0
  part_after n (work.Through _) = n + 1

module _ {S C : Type 0} where
  abbrev pub parts_after : ℕ → List (Task S C) → ℕ
  parts_after n [] = n
  parts_after n (t ∷ ts) = parts_after (part_after n t.work) ts

  abbrev pub parts_on_top : List (Task S C) → ℕ
  parts_on_top ts = parts_after 0 ts

  -- the next task is an event
  abbrev pub EventOnTop : List (Task S C) → Type 0
  EventOnTop ts = parts_on_top ts ≡ 0

module _ {S C : Type 0} (schema : Declarations S C) where
  abbrev pub part_events : Part S → spec.Around S C → List (spec.Seen S C)
  part_events (part.Document ds) around = events schema ds.now
  part_events (part.Definitions ds) around = flat_map (definition_events schema) ds.now
  part_events (part.Variables vs) around = through_each (variable_events schema) vs.now around
  part_events (part.Directives place ds) around = directives_events schema place ds.now around
  part_events (part.Arguments owner declared xs) around =
      arguments_events schema (owner_of owner) (option_map arguments_lent declared) xs.now around
  part_events (part.Set xs) around = set_events schema xs.now around
  part_events (part.Selections xs) around = through_each (selection_events schema) xs.now around
  part_events (part.Value x) around = value_events schema x.now around
  part_events (part.Items xs) around = through_each (item_events schema) xs.now around
  part_events (part.Pairs ps) around = through_each (pair_events schema) ps.now around

  abbrev pub work_events : Work S → spec.Around S C → List (spec.Seen S C)
  work_events (work.Tell s n) around = seen_event around (side_event s (node_of n)) ∷ []
  work_events (work.Through p) around = part_events p around

  abbrev pub task_events : Task S C → List (spec.Seen S C)
  task_events t = work_events t.work (around_of t.around)

  -- the tasks on top come first
  abbrev pub pending_events : List (Task S C) → List (spec.Seen S C)
  pending_events [] = []
  pending_events (t ∷ ts) = pending_events ts ++ task_events t

  -- these events come before what was ahead
  abbrev pub PutsFirst : List (spec.Seen S C) → List (Task S C) → List (Task S C) → Type 0
  PutsFirst es old new = pending_events new ≡ es ++ pending_events old

  -- so they do, and the first of them is the next task
  abbrev pub OpensEvents : List (spec.Seen S C) → List (Task S C) → List (Task S C) → Type 0
  OpensEvents es old new = PutsFirst es old new × EventOnTop new

  -- the same, or there is none of these events
  abbrev pub OpensAny : List (spec.Seen S C) → List (Task S C) → List (Task S C) → Type 0
  OpensAny es old new = PutsFirst es old new × (EventOnTop new ⊎ (new ≡ old))

module _ {S C : Type 0} where
  -- the events that a walk has yet to tell
  abbrev pub ahead : Walk S C → List (spec.Seen S C)
  ahead walk = pending_events (declarations_of walk.schema.now) walk.tasks
