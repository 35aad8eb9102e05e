-- Where the executor of a field stands, and what a resolver is asked there (GraphQL October 2021,
-- 6.4 Executing Fields).
use Rattle.std.specs.Prelude.{◌≡◌, ◌⊎◌, List, [], ◌∷◌, ◌++◌, Some}
use Rattle.std.specs.List.{All, Contains}
use Rattle.graphql_names.specs.Names.{Bytes}
use Rattle.graphql_text.specs.declared.position.SourcePosition.{SourcePosition}
use Rattle.graphql_values.specs.InputValues.{Placed}
use Rattle.graphql_tree.specs.declared.selection.Field.{Field}
use Rattle.graphql_tree.specs.declared.selection.Selection.{Selection}
use Rattle.graphql_tree.specs.declared.selection.Selection.TheVariants as selection
use Rattle.graphql_schema.specs.Types.{TypeOf}
use Rattle.graphql_occurrences.specs.DeclaredLent.{literal_of}
use Rattle.graphql_arguments.specs.ArgumentValues.{Given}
use Rattle.graphql_written_out.specs.Fields.{Found}
use Rattle.graphql_written_out.specs.Trees.{Tree}
use Rattle.graphql_written_out.specs.Written.{Settled, head_of}
use Rattle.graphql_collected.specs.declared.request.Request.{Request}
use Rattle.graphql_collected.specs.Occurrences.{found_field}
use Rattle.graphql_collected.specs.Requests.{fragments_in}
use Rattle.graphql_semantics.specs.Evaluation.{sets_below}
use Rattle.graphql_look_ahead.specs.Selections.{none_or}
use Rattle.graphql_execution_walk.specs.declared.executor.Executor.{Executor}
use Rattle.graphql_execution_walk.specs.Engines.{arguments_given}
use Rattle.graphql_execution_walk.specs.Evaluations.{Evaluation}
use Rattle.graphql_execution_walk.specs.FieldDeclarations.{declared_type}
use Rattle.graphql_execution_walk.specs.FieldPaths.{keys_of, start_of_path}
use Rattle.graphql_execution_walk.specs.Sets.{sets_in}

-- the object type of a node: its own, or of the root that from which queries start (6.2.1 Query)
abbrev pub IsTypeOf : {N : Type 0} → Bytes → N → (N → Bytes) → N → Bytes → Type 0
IsTypeOf query root type_of node object =
    (object ≡ type_of node) ⊎ ((object ≡ query) × (node ≡ root))

-- the same, where evaluation stands
abbrev pub IsTyped : {S N : Type 0} → Evaluation S N → N → Bytes → Type 0
IsTyped here = IsTypeOf here.query here.root here.type_of

-- the place of a field of an object type, which is the first of its response key
pub record IsFieldPlace {S C : Type 0} (request : Request S C) (object : Bytes)
    (field : Placed (Field S))
    (among : List (Selection S)) (type : TypeOf) (start : SourcePosition) (path : List Bytes)
    (sets : List (Tree S)) : Type 0 where
  -- the list in which it directly stands
  pub stands : Contains among (selection.Field field)
  -- the type that is declared for it
  pub declared : declared_type request.schema.now.types object (head_of field).name ≡ Some type
  -- where it starts
  pub starts : start ≡ (head_of field).place
  -- the response keys that lead to it, its own the last
  pub above : List Bytes
  pub leads : path ≡ above ++ (head_of field).key ∷ []
  -- the selection sets of all fields of its key, its own the first
  pub others : List (Found S)
  pub alike : All (λ (other : Found S). other.head.key ≡ (head_of field).key) others
  pub selects : sets ≡ sets_below (found_field (fragments_in request) field ∷ others)

module _ {S C Context : Type 0} (executor : Executor Context S C) where
  -- the fragments of its request are without a cycle (5.5.2.2 Fragment Spreads Must Not Form
  -- Cycles)
  abbrev pub IsSettled : Type 0
  IsSettled = Settled (fragments_in executor.request.now)

  -- the executor stands at a field of an object type
  abbrev pub StandsAt : Bytes → Placed (Field S) → Type 0
  StandsAt object field =
      IsFieldPlace executor.request.now object field (none_or executor.among)
      (literal_of executor.current_type) (start_of_path executor.path) (keys_of executor.path)
      (sets_in executor.request.now executor.selected)

  -- where the executor stands at a field of a node, that field is asked for, by its name and the
  -- values of its arguments
  pub record IsAsked {N : Type 0} (root : N) (type_of : N → Bytes) (node : N) (name : Bytes)
      (given : Given S) : Type 0 where
    pub object : Bytes
    pub typed : IsTypeOf executor.request.now.schema.now.query root type_of node object
    pub field : Placed (Field S)
    pub stands : StandsAt object field
    pub named : name ≡ (head_of field).name
    pub values : given ≡ arguments_given executor.request.now object (head_of field)
