-- What selection sets give on a node (GraphQL October 2021, 6.3 Executing Selection Sets, 6.4
-- Executing Fields).
use Rattle.std.specs.Prelude.{ℕ, zero, suc, max, List, [], ◌∷◌, ◌++◌, map, reverse, Option, Some}
use Rattle.std.specs.Prelude.{None, Result}
use Rattle.std.specs.List.{flat_map}
use Rattle.graphql_names.specs.Names.{Bytes}
use Rattle.graphql_output_values.specs.Objects.{Pair}
use Rattle.graphql_output_values.specs.declared.value.Value.{Value}
use Rattle.graphql_output_values.specs.declared.value.Value.TheVariants as value
use Rattle.graphql_written_out.specs.Trees.{Head, Tree, height}
use Rattle.graphql_written_out.specs.Fields.{Found, fields}
use Rattle.graphql_written_out.specs.Groups.{groups}
use Rattle.graphql_field_results.specs.declared.execution_error.ExecutionError.{ExecutionError}
use Rattle.graphql_field_results.specs.declared.field_error.FieldError.{FieldError}
use Rattle.graphql_field_results.specs.declared.resolved.Resolved.{Resolved}
use Rattle.graphql_schema.specs.Types.{TypeOf}
use Rattle.graphql_semantics.specs.Engines.{Engine}
use Rattle.graphql_semantics.specs.Outcomes.{Outcome, no_value, gives, outcome_map, show_place}
use Rattle.graphql_semantics.specs.Outcomes.{together}
use Rattle.graphql_semantics.specs.Completion.{Members, blame_at, complete_result, is_required}

-- what sets of selections give on a node of an object type, at a path
abbrev pub RunOfSets : Type 0 → Type 0 → Type 0
RunOfSets S N = List Bytes → Bytes → N → List (Tree S) → Outcome S (Members S)

-- the selection sets of fields
abbrev pub sets_below : {S : Type 0} → List (Found S) → List (Tree S)
sets_below xs = map (λ x. x.below) xs

-- a key, and the fields that have it
abbrev pub Group : Type 0 → Type 0
Group S = Bytes × List (Found S)

module _ {S N : Type 0} (e : Engine S N) where
  -- what is answered for a field, completed at a type; `run` runs the field's own selections
  abbrev pub at_type : (N → Outcome S (Members S)) → (FieldError S → ExecutionError S) → TypeOf
      → Result (Resolved S N) (FieldError S) → Outcome S (Value S)
  at_type run blame type answer =
      show_place (is_required (reverse type.modifiers))
      (complete_result run blame type.name (e.is_leaf type.name)
      (λ m. e.is_possible type.name (e.concrete m)) (reverse type.modifiers) answer)

  -- a field without a declaration, which no valid document has, is null
  abbrev pub at_declared : Option TypeOf → (N → Outcome S (Members S))
      → (FieldError S → ExecutionError S) → Result (Resolved S N) (FieldError S)
      → Outcome S (Value S)
  at_declared None run blame answer = gives value.Null
  at_declared (Some type) run blame answer = at_type run blame type answer

  -- the answer of a field at its path
  abbrev pub field_outcome : (N → Outcome S (Members S)) → List Bytes → Bytes → N → Head S
      → Outcome S (Value S)
  field_outcome run path object node head =
      at_declared (e.declared object head.name) run (blame_at path head.place)
      (e.answer node object head.name (e.arguments object head))

  -- a group has one answer, that of its first field, with the selections of all its fields
  abbrev pub group : RunOfSets S N → List Bytes → Bytes → N → Bytes → List (Found S)
      → Outcome S (Value S)
  group run path object node key [] = no_value
  group run path object node key (x ∷ xs) =
      field_outcome (λ m. run (path ++ key ∷ []) (e.concrete m) m (sets_below (x ∷ xs)))
      (path ++ key ∷ []) object node x.head

  -- what a group gives, under its key
  abbrev pub keyed : RunOfSets S N → List Bytes → Bytes → N → Group S → Outcome S (Pair (Value S))
  keyed run path object node g = outcome_map (λ x. (g.0, x)) (group run path object node g.0 g.1)

  -- the fields of sets for an object type
  abbrev pub found_in : Bytes → List (Tree S) → List (Found S)
  found_in object = flat_map (fields e.drops (e.is_below object))

  -- to a depth of selection sets
  abbrev pub run : ℕ → RunOfSets S N
  run zero path object node sets = gives []
  run (suc n) path object node sets =
      together (map (keyed (run n) path object node) (groups (found_in object sets)))

-- the height of the highest
abbrev pub highest : {S : Type 0} → List (Tree S) → ℕ
highest [] = 0
highest (t ∷ ts) = max (height t) (highest ts)

-- what sets of selections give: any depth that suffices gives the same
abbrev pub evaluate : {S N : Type 0} → Engine S N → RunOfSets S N
evaluate e path object node sets = run e (highest sets) path object node sets
