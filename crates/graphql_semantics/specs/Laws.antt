-- What holds of evaluation (GraphQL October 2021, 6.3 Executing Selection Sets, 6.4.4 Handling
-- Field Errors).
use Rattle.std.specs.Prelude.{◌≡◌, ◌↔◌, ℕ, ◌+◌, ◌≤◌, List, map, IfSome}
use Rattle.std.specs.List.{All, Contains, sum}
use Rattle.graphql_names.specs.Names.{Bytes}
use Rattle.graphql_output_values.specs.DistinctKeys.{HasDistinctKeysThroughout}
use Rattle.graphql_written_out.specs.Trees.{Tree}
use Rattle.graphql_written_out.specs.Fields.{Found}
use Rattle.graphql_written_out.specs.Groups.{groups}
use Rattle.graphql_written_out.specs.Repeats.{Repeats}
use Rattle.graphql_arguments.specs.ArgumentValues.{Given}
use Rattle.graphql_field_results.specs.Answered.{TellsInDistinctKeys}
use Rattle.graphql_field_results.specs.declared.execution_error.ExecutionError.{ExecutionError}
use Rattle.graphql_semantics.specs.Engines.{Engine}
use Rattle.graphql_semantics.specs.Outcomes.{together}
use Rattle.graphql_semantics.specs.Completion.{object_members}
use Rattle.graphql_semantics.specs.Evaluation.{Group, evaluate, found_in, highest, keyed, run}
use Rattle.graphql_semantics.specs.Failing.{AreAt, Fails, IsAccounted}
use Rattle.graphql_semantics.specs.Fitting.{MembersFit}
use Rattle.graphql_semantics.specs.Turns.{all_turns, turns_of_group}

-- what is told beside a failure has distinct keys, however deep
abbrev pub TellsDistinctKeys : {S : Type 0} → ExecutionError S → Type 0
TellsDistinctKeys failure = HasDistinctKeysThroughout failure.error.extensions

-- what each answer of an engine tells beside an error has
abbrev pub AnswersTellDistinctKeys : {S N : Type 0} → Engine S N → Type 0
AnswersTellDistinctKeys {S} {N} e = (node : N) (object field : Bytes) (given : Given S)
    → TellsInDistinctKeys (e.answer node object field given)

module _ (S N : Type 0) where
  -- each depth that suffices gives the same
  abbrev pub DepthsAlike : Type 0
  DepthsAlike = (e : Engine S N) (n : ℕ) (path : List Bytes) (object : Bytes) (node : N)
      (sets : List (Tree S))
      → highest sets ≤ n → run e n path object node sets ≡ evaluate e path object node sets

  -- data fit the sets at the types that are declared
  abbrev pub DataFit : Type 0
  DataFit = (e : Engine S N) (path : List Bytes) (object : Bytes) (node : N) (sets : List (Tree S))
      → IfSome (evaluate e path object node sets).value
      (MembersFit e object (groups (found_in e object sets)))

  -- each object in data has distinct keys, however deep
  abbrev pub DataHaveDistinctKeys : Type 0
  DataHaveDistinctKeys =
      (e : Engine S N) (path : List Bytes) (object : Bytes) (node : N) (sets : List (Tree S))
      → IfSome (evaluate e path object node sets).value
      (λ members. HasDistinctKeysThroughout (object_members members))

  -- each failure stands at the path or below it
  abbrev pub FailuresStandBelow : Type 0
  FailuresStandBelow =
      (e : Engine S N) (path : List Bytes) (object : Bytes) (node : N) (sets : List (Tree S))
      → AreAt path (evaluate e path object node sets).failures

  -- where there are no data, something failed
  abbrev pub NoDataFails : Type 0
  NoDataFails =
      (e : Engine S N) (path : List Bytes) (object : Bytes) (node : N) (sets : List (Tree S))
      → IsAccounted (evaluate e path object node sets)

  -- the failures are just what fails
  abbrev pub FailuresAreExact : Type 0
  FailuresAreExact = (e : Engine S N) (path : List Bytes) (object : Bytes) (node : N)
      (sets : List (Tree S)) (f : ExecutionError S)
      → Contains (evaluate e path object node sets).failures f ↔ Fails e path object node sets f

  -- sets that differ by repeats give the same
  abbrev pub RepeatsGiveNothing : Type 0
  RepeatsGiveNothing =
      (e : Engine S N) (path : List Bytes) (object : Bytes) (node : N) (ys xs : List (Tree S))
      → Repeats ys xs → evaluate e path object node ys ≡ evaluate e path object node xs

  -- sets give what the groups of their fields give, repeats left out or not
  abbrev pub DataOfGroups : Type 0
  DataOfGroups = (e : Engine S N) (path : List Bytes) (object : Bytes) (node : N)
      (sets : List (Tree S)) (ys : List (Found S))
      → Repeats ys (found_in e object sets)
      → together (map (keyed e (evaluate e) path object node) (groups ys))
      ≡ evaluate e path object node sets

  -- sets take the turns that the groups of their fields take, repeats left out or not
  abbrev pub TurnsOfGroups : Type 0
  TurnsOfGroups =
      (e : Engine S N) (object : Bytes) (node : N) (sets : List (Tree S)) (ys : List (Found S))
      → Repeats ys (found_in e object sets)
      → sum
      (map (λ (g : Group S). 1 + turns_of_group e (all_turns e) object node g.1) (groups ys))
      ≡ all_turns e object node sets

  -- what is told beside failures has distinct keys, where what answers tell beside errors has
  abbrev pub FailuresTellDistinctKeys : Type 0
  FailuresTellDistinctKeys = (e : Engine S N) → AnswersTellDistinctKeys e
      → (path : List Bytes) (object : Bytes) (node : N) (sets : List (Tree S))
      → All TellsDistinctKeys (evaluate e path object node sets).failures
