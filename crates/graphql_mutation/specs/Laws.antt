-- What holds of mutations (GraphQL October 2021, 6.2.1 Query, 6.2.2 Mutation).
use Rattle.std.specs.Prelude.{◌≡◌, ◌↔◌, ◌++◌, List, [], IfSome}
use Rattle.std.specs.List.{All, Contains}
use Rattle.graphql_names.specs.Names.{Bytes}
use Rattle.graphql_arguments.specs.ArgumentValues.{Given}
use Rattle.graphql_output_values.specs.DistinctKeys.{HasDistinctKeysThroughout}
use Rattle.graphql_written_out.specs.Trees.{Head, Tree}
use Rattle.graphql_written_out.specs.Fields.{Found}
use Rattle.graphql_written_out.specs.Groups.{groups}
use Rattle.graphql_written_out.specs.Repeats.{Repeats}
use Rattle.graphql_field_results.specs.Answered.{TellsInDistinctKeys}
use Rattle.graphql_field_results.specs.declared.execution_error.ExecutionError.{ExecutionError}
use Rattle.graphql_semantics.specs.Completion.{Members, object_members}
use Rattle.graphql_semantics.specs.Evaluation.{evaluate, found_in}
use Rattle.graphql_semantics.specs.Laws.{AnswersTellDistinctKeys, TellsDistinctKeys}
use Rattle.graphql_semantics.specs.Outcomes.{Outcome}
use Rattle.graphql_semantics.specs.Failing.{IsAccounted}
use Rattle.graphql_mutation.specs.Fitting.{RunFails, RunFits}
use Rattle.graphql_mutation.specs.Serial.{Mutation, Run, mutate, root_groups, serially, step_of}

-- fields that stand there before give nothing more, and change nothing more
abbrev pub RepeatsChangeNothing : (S N X : Type 0) → Type 0
RepeatsChangeNothing S N X =
    (m : Mutation S N X) (object : Bytes) (c : X) (sets : List (Tree S)) (ys : List (Found S))
    → Repeats ys (found_in (m.engine c) object sets)
    → serially m object c (groups ys) ≡ mutate m object c sets

-- on a context, what is answered for a field of the root is what a node answers for it, and nothing
-- is changed
abbrev pub AsksOnly : {S N X : Type 0} → Mutation S N X → Bytes → X → N → Type 0
AsksOnly {S} m object c node = (head : Head S)
    → step_of m object c head
    ≡ record {
      answer = (m.engine c).answer node object head.name
          ((m.engine c).arguments object head);
      after = c;
    }

-- the value of an outcome, and its failures, or where there is no value a beginning of them; the
-- context stays
pub record GivesOf {S X A : Type 0} (run : Run S X A) (o : Outcome S A) (c : X) : Type 0 where
  pub value : run.outcome.value ≡ o.value
  pub others : List (ExecutionError S)
  pub failures : o.failures ≡ run.outcome.failures ++ others
  pub all : IfSome o.value (λ _. others ≡ [])
  pub after : run.after ≡ c

-- a mutation that only asks gives what a query gives on the node
abbrev pub AskingOnlyIsQuerying : (S N X : Type 0) → Type 0
AskingOnlyIsQuerying S N X =
    (m : Mutation S N X) (object : Bytes) (c : X) (node : N) (sets : List (Tree S))
    → AsksOnly m object c node
    → GivesOf (mutate m object c sets) (evaluate (m.engine c) [] object node sets) c

-- what each answer tells beside an error has distinct keys, at the root and below it, on each
-- context
pub record StepsTellDistinctKeys {S N X : Type 0} (m : Mutation S N X) : Type 0 where
  pub below : (c : X) → AnswersTellDistinctKeys (m.engine c)
  pub steps : (c : X) (object field : Bytes) (given : Given S)
      → TellsInDistinctKeys (m.step c object field given).answer

-- each object in data has distinct keys, however deep, and so has what is told beside failures
pub record HasDistinctRun {S X : Type 0} (run : Run S X (Members S)) : Type 0 where
  pub members : IfSome run.outcome.value
      (λ members. HasDistinctKeysThroughout (object_members members))
  pub failures : All TellsDistinctKeys run.outcome.failures

abbrev pub RunsHaveDistinctKeys : (S N X : Type 0) → Type 0
RunsHaveDistinctKeys S N X =
    (m : Mutation S N X) → StepsTellDistinctKeys m → (object : Bytes) (c : X) (sets : List (Tree S))
    → HasDistinctRun (mutate m object c sets)

-- data fit the selection sets at the types that are declared, each group on the context that the
-- one before it left
abbrev pub RunsFit : (S N X : Type 0) → Type 0
RunsFit S N X = (m : Mutation S N X) (object : Bytes) (c : X) (sets : List (Tree S))
    → IfSome (mutate m object c sets).outcome.value
    (RunFits m object c (root_groups m object c sets))

-- the failures are just what fails, up to the first group whose null reaches the root
abbrev pub RunFailuresAreExact : (S N X : Type 0) → Type 0
RunFailuresAreExact S N X =
    (m : Mutation S N X) (object : Bytes) (c : X) (sets : List (Tree S)) (f : ExecutionError S)
    → Contains (mutate m object c sets).outcome.failures f
    ↔ RunFails m object c (root_groups m object c sets) f

-- where there are no data, something failed
abbrev pub RunsWithoutDataFail : (S N X : Type 0) → Type 0
RunsWithoutDataFail S N X = (m : Mutation S N X) (object : Bytes) (c : X) (sets : List (Tree S))
    → IsAccounted (mutate m object c sets).outcome
