-- What operations are answered
-- (GraphQL October 2021, 6.2 Executing Operations, 7.1 Response Format).
use Rattle.std.specs.Prelude.{◌≡◌, ◌↔◌, List, []}
use Rattle.graphql_names.specs.Names.{Bytes}
use Rattle.graphql_written_out.specs.Trees.{Tree}
use Rattle.graphql_semantics.specs.Evaluation.{evaluate}
use Rattle.graphql_semantics.specs.Outcomes.{Outcome}
use Rattle.graphql_mutation.specs.Serial.{Mutation, mutate}
use Rattle.graphql_plain_answers.specs.WithoutPlaces.{unlocated_outcome, unlocated_run}

-- sets that give the same, by what is asked for each: one value, and failures that differ in
-- their places alone; and that leave one context
pub record GiveTheSame {S N X : Type 0} (m n : Mutation S N X) (sets others : List (Tree S))
    : Type 0 where
  -- 6.2.1 Query
  pub as_query : (c : X) (path : List Bytes) (object : Bytes) (node : N)
      → unlocated_outcome (evaluate (m.engine c) path object node sets)
      ≡ unlocated_outcome (evaluate (n.engine c) path object node others)
  -- 6.2.2 Mutation
  pub as_mutation : (c : X) (object : Bytes)
      → unlocated_run (mutate m object c sets) ≡ unlocated_run (mutate n object c others)

-- the same value, and failures in both or in neither
pub record SucceedAlike {S A : Type 0} (o p : Outcome S A) : Type 0 where
  pub value : o.value ≡ p.value
  pub failures : (o.failures ≡ []) ↔ (p.failures ≡ [])
