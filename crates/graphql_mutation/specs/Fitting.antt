-- Data of a mutation that fit its selection sets, and what fails of it
-- (GraphQL October 2021, 6.2.2 Mutation, 6.4.3 Value Completion, 6.4.4 Handling Field Errors).
use Rattle.std.specs.Prelude.{◌≡◌, List, [], ◌∷◌, reverse, Some, None, Ok, Err}
use Rattle.graphql_names.specs.Names.{Bytes}
use Rattle.graphql_output_values.specs.declared.value.Value.{Value}
use Rattle.graphql_output_values.specs.declared.value.Value.TheVariants as value
use Rattle.graphql_schema.specs.Types.{TypeOf}
use Rattle.graphql_written_out.specs.Fields.{Found}
use Rattle.graphql_field_results.specs.declared.execution_error.ExecutionError.{ExecutionError}
use Rattle.graphql_field_results.specs.declared.field_error.FieldError.{FieldError}
use Rattle.graphql_field_results.specs.declared.resolved.Resolved.{Resolved}
use Rattle.graphql_semantics.specs.Completion.{Members, blame_at}
use Rattle.graphql_semantics.specs.Engines.{Engine}
use Rattle.graphql_semantics.specs.Evaluation.{Group, sets_below}
use Rattle.graphql_semantics.specs.Failing.{Fails, NodeAt, ReasonAt}
use Rattle.graphql_semantics.specs.Fitting.{Fits}
use Rattle.graphql_mutation.specs.Serial.{Mutation, root_group, step_of}

module _ {S N X : Type 0} (m : Mutation S N X) (object : Bytes) where
  -- what is asked over the context that a field of the root leaves
  abbrev pub after_step : X → Found S → Engine S N
  after_step c x = m.engine (step_of m object c x.head).after

  -- the value under a key of the root fits the type of the first field of that key, on the context
  -- that the field leaves
  pub data RootFits : X → List (Found S) → Value S → Type 0 where
    declared : (c : X) (x : Found S) (xs : List (Found S)) (type : TypeOf) (v : Value S)
        → (m.engine c).declared object x.head.name ≡ Some type
        → Fits (after_step c x) (sets_below (x ∷ xs)) type.name (reverse type.modifiers) v
        → RootFits c (x ∷ xs) v
    undeclared : (c : X) (x : Found S) (xs : List (Found S))
        → (m.engine c).declared object x.head.name ≡ None
        → RootFits c (x ∷ xs) value.Null

  -- the data have a member for each group, in order, each on the context that the one before it
  -- left
  pub data RunFits : X → List (Group S) → Members S → Type 0 where
    no_groups : (c : X) → RunFits c [] []
    more_groups : (c : X) (key : Bytes) (xs : List (Found S)) (v : Value S) (gs : List (Group S))
        (ms : Members S)
        → RootFits c xs v → RunFits (root_group m object c key xs).after gs ms
        → RunFits c ((key, xs) ∷ gs) ((key, v) ∷ ms)

  -- something fails of a group of the root: the resolver's error, an answer that fails at the type
  -- of the field, or what fails below a node that is answered
  pub data RootFails : X → Bytes → List (Found S) → ExecutionError S → Type 0 where
    resolver : (c : X) (key : Bytes) (x : Found S) (xs : List (Found S)) (type : TypeOf)
        (error : FieldError S)
        → (m.engine c).declared object x.head.name ≡ Some type
        → (step_of m object c x.head).answer ≡ Err error
        → RootFails c key (x ∷ xs) (blame_at (key ∷ []) x.head.place error)
    answer : (c : X) (key : Bytes) (x : Found S) (xs : List (Found S)) (type : TypeOf)
        (r : Resolved S N) (error : FieldError S)
        → (m.engine c).declared object x.head.name ≡ Some type
        → (step_of m object c x.head).answer ≡ Ok r
        → ReasonAt (after_step c x) type r error
        → RootFails c key (x ∷ xs) (blame_at (key ∷ []) x.head.place error)
    below : (c : X) (key : Bytes) (x : Found S) (xs : List (Found S)) (type : TypeOf)
        (r : Resolved S N) (n : N) (f : ExecutionError S)
        → (m.engine c).declared object x.head.name ≡ Some type
        → (step_of m object c x.head).answer ≡ Ok r
        → NodeAt (after_step c x) type r n
        → Fails (after_step c x) (key ∷ []) ((after_step c x).concrete n) n
        (sets_below (x ∷ xs)) f
        → RootFails c key (x ∷ xs) f

  -- something fails of the first group, or, where that has a value, of a later one: behind a null
  -- that reaches the root nothing is asked
  pub data RunFails : X → List (Group S) → ExecutionError S → Type 0 where
    first : (c : X) (key : Bytes) (xs : List (Found S)) (gs : List (Group S)) (f : ExecutionError S)
        → RootFails c key xs f → RunFails c ((key, xs) ∷ gs) f
    later : (c : X) (key : Bytes) (xs : List (Found S)) (gs : List (Group S)) (v : Value S)
        (f : ExecutionError S)
        → (root_group m object c key xs).outcome.value ≡ Some v
        → RunFails (root_group m object c key xs).after gs f → RunFails c ((key, xs) ∷ gs) f
