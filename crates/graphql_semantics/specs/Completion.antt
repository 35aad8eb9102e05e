-- What an answer comes to at a type (GraphQL October 2021, 6.4.3 Value Completion, 6.4.4 Handling
-- Field Errors).
use Rattle.std.specs.Prelude.{Bool, true, false, List, [], ◌∷◌, ◌++◌, map, reverse, Result, Ok, Err}
use Rattle.std.specs.Prelude.{codes}
use Rattle.graphql_names.specs.Names.{Bytes}
use Rattle.graphql_text.specs.declared.position.SourcePosition.{SourcePosition}
use Rattle.graphql_names.specs.TypeReference.{written_type}
use Rattle.graphql_names.specs.declared.type_modifier.TypeModifier.{TypeModifier}
use Rattle.graphql_names.specs.declared.type_modifier.TypeModifier.TheVariants as modifier
use Rattle.graphql_output_values.specs.Objects.{Pair}
use Rattle.graphql_output_values.specs.declared.value.Value.{Value}
use Rattle.graphql_output_values.specs.declared.value.Value.TheVariants as value
use Rattle.graphql_field_results.specs.declared.execution_error.ExecutionError.{ExecutionError}
use Rattle.graphql_field_results.specs.declared.field_error.FieldError.{FieldError}
use Rattle.graphql_field_results.specs.declared.resolved.Resolved.{Resolved, out-Resolved}
use Rattle.graphql_field_results.specs.declared.resolved.Resolved.TheOpen.{Resolved-F}
use Rattle.graphql_semantics.specs.Outcomes.{Outcome, no_value, gives, fails, outcome_map}
use Rattle.graphql_semantics.specs.Outcomes.{show_place, together}

-- the error of a field, by its path and where it starts
abbrev pub blame_at : {S : Type 0} → List Bytes → SourcePosition → FieldError S → ExecutionError S
blame_at path location error = record { location = location; path = path; error = error }

abbrev pub reason : {S : Type 0} → Bytes → FieldError S
reason message = record { message = message; extensions = value.Null }

-- the resolver's own null, where null is kept out
abbrev pub own_null : {S : Type 0} → FieldError S
own_null = reason (codes "Null at a non-null place")

-- an answer that does not fit a type of this name within these wraps, the outermost first
abbrev pub misfit_error : {S : Type 0} → Bytes → List TypeModifier → FieldError S
misfit_error name wraps = reason
    (codes "Answer does not fit type " ++ written_type name (reverse wraps))

-- whether null is kept out, by the wraps of a type, the outermost first
abbrev pub is_required : List TypeModifier → Bool
is_required [] = false
is_required (modifier.NonNull ∷ wraps) = true
is_required (modifier.List size ∷ wraps) = false

-- the members of an object, by their response keys
abbrev pub Members : Type 0 → Type 0
Members S = List (Pair (Value S))

-- the object of these members
abbrev pub object_members : {S : Type 0} → Members S → Value S
object_members members = value.Object (record { fields = members })

-- `run`: what the field's own selections give on a node; `blame`: the error of a failure here; of
-- the type's name, whether it is a leaf and which nodes can stand there
module _ {S N : Type 0} (run : N → Outcome S (Members S)) (blame : FieldError S → ExecutionError S)
    (name : Bytes) (is_leaf : Bool) (is_possible : N → Bool) where
  abbrev pub misfit : List TypeModifier → Outcome S (Value S)
  misfit wraps = fails (blame (misfit_error name wraps))

  -- the object that a node gives, where the node can stand there
  abbrev pub run_if : Bool → N → Outcome S (Value S)
  run_if true node = outcome_map object_members (run node)
  run_if false node = misfit []

  -- the value of a scalar, where one can stand there
  abbrev pub leaf_if : Bool → S → Outcome S (Value S)
  leaf_if true scalar = gives (value.Scalar scalar)
  leaf_if false scalar = misfit []

  -- at a leaf type a scalar fits, at a composite type a node whose object type is possible there
  abbrev pub at_name : Resolved-F S N (Resolved S N) → Outcome S (Value S)
  at_name Resolved-F.Null = no_value
  at_name (Resolved-F.Scalar scalar) = leaf_if is_leaf scalar
  at_name (Resolved-F.List items) = misfit []
  at_name (Resolved-F.Node node) = run_if (is_possible node) node

  -- at a list type a list fits; `item`: what an item comes to
  abbrev pub at_list : List TypeModifier → (Resolved S N → Outcome S (Value S))
      → Resolved-F S N (Resolved S N) → Outcome S (Value S)
  at_list wraps item Resolved-F.Null = no_value
  at_list wraps item (Resolved-F.Scalar scalar) = misfit wraps
  at_list wraps item (Resolved-F.List items) = outcome_map value.List (together (map item items))
  at_list wraps item (Resolved-F.Node node) = misfit wraps

  -- the resolver's own null fails where null is kept out
  abbrev pub at_required : Outcome S (Value S) → Resolved-F S N (Resolved S N) → Outcome S (Value S)
  at_required o Resolved-F.Null = fails (blame own_null)
  at_required o (Resolved-F.Scalar scalar) = o
  at_required o (Resolved-F.List items) = o
  at_required o (Resolved-F.Node node) = o

  -- an answer at a type, by its wraps, the outermost first
  abbrev pub complete : List TypeModifier → Resolved S N → Outcome S (Value S)
  complete [] r = at_name (out-Resolved S N r)
  complete (modifier.NonNull ∷ wraps) r = at_required (complete wraps r) (out-Resolved S N r)
  complete (modifier.List size ∷ wraps) r = at_list (modifier.List size ∷ wraps)
      (λ x. show_place (is_required wraps) (complete wraps x)) (out-Resolved S N r)

  -- a resolver's error is a failure
  abbrev pub complete_result : List TypeModifier → Result (Resolved S N) (FieldError S)
      → Outcome S (Value S)
  complete_result wraps (Ok r) = complete wraps r
  complete_result wraps (Err e) = fails (blame e)
