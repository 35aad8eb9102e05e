-- Each object in an answer has distinct keys, however deep.
use Rattle.std.proofs.Common.{Bool, List, [], Option, Some, None, Result, Ok, Err, IfSome}
use Rattle.std.specs.Option.{option_map}
use Rattle.std.specs.Prelude.{IsPermutation, unwrap_or}
use Rattle.std.specs.List.{All}
use Rattle.std.proofs.lemmas.List.Sorted.{All-permutation}
use Rattle.graphql_names.specs.Names.{Bytes}
use Rattle.graphql_scalars.specs.ScalarAnswers.{ScalarAnswer}
use Rattle.graphql_arguments.specs.ArgumentValues.{Given}
use Rattle.graphql_values.specs.declared.input_value.InputValue.{InputValue}
use Rattle.graphql_schema.specs.declared.schema.SchemaType.{SchemaType}
use Rattle.graphql_written_out.specs.Trees.{Tree}
use Rattle.graphql_output_values.specs.DistinctKeys.{HasDistinctKeysThroughout}
use Rattle.graphql_output_values.specs.declared.value.Value.TheVariants as value
use Rattle.graphql_output_values.proofs.DistinctKeyLaws.{by_forms}
use Rattle.graphql_field_results.specs.Answered.{TellsInDistinctKeys}
use Rattle.graphql_field_results.specs.declared.execution_error.ExecutionError.{ExecutionError}
use Rattle.graphql_field_results.specs.declared.field_error.FieldError.{FieldError}
use Rattle.graphql_field_results.specs.declared.resolved.Resolved.{Resolved}
use Rattle.graphql_semantics.specs.Completion.{Members, object_members}
use Rattle.graphql_semantics.specs.Laws.{AnswersTellDistinctKeys, DataHaveDistinctKeys, FailuresTellDistinctKeys, TellsDistinctKeys}
use Rattle.graphql_introspection.specs.Nodes.{PartAnswer}
use Rattle.graphql_execution_walk.specs.Asked.{AskedAnswer, map_answer, or_asked, own_answer, told_of_itself}
use Rattle.graphql_execution_walk.specs.Engines.{Resolves, engine_over}
use Rattle.graphql_execution_walk.specs.declared.asked.Asked.{Asked}
use Rattle.graphql_execution_walk.specs.declared.asked.Asked.TheVariants as asked
use Rattle.graphql_mutation.specs.Laws.{HasDistinctRun, RunsHaveDistinctKeys, StepsTellDistinctKeys}
use Rattle.graphql_mutation.specs.Mutations.{Changes, mutation_over}
use Rattle.graphql_mutation.specs.Serial.{Mutation, Run}
use Rattle.graphql_executor.specs.Executed.{data_of, run_at}

-- of a resolver, over each context
pub record AlwaysTells {S N X : Type 0} (answer : X → Resolves S N) (changes : Changes S N X) : Type 0 where
  pub fields : (c : X) (node : N) (field : Bytes) (given : Given S) → TellsInDistinctKeys (answer c node field given)
  pub roots : (c : X) (field : Bytes) (given : Given S) → TellsInDistinctKeys (changes.answer c field given)

-- what the schema answers is no error
told-or : {S N C : Type 0} (told : Option (PartAnswer S C)) (answer : AskedAnswer S N C) → TellsInDistinctKeys answer
    → TellsInDistinctKeys (or_asked told answer)
told-or (Some told) answer h = record { beside = tt }
told-or None answer h = h

-- an error of a resolver tells what it told
same-told : {S N M : Type 0} (f : N → M) (answer : Result (Resolved S N) (FieldError S)) → TellsInDistinctKeys answer
    → TellsInDistinctKeys (map_answer f answer)
same-told f (Ok r) h = record { beside = tt }
same-told f (Err e) h = record { beside = h.beside }

module _ {S C N X : Type 0} (of_text : Bytes → S) (of_bool : Bool → S) (answers : S → ScalarAnswer)
    (schema : SchemaType S C) (values : Bytes → Option (InputValue S)) (type_of : X → N → Bytes)
    (answer : X → Resolves S N) (changes : Changes S N X) (tells : AlwaysTells answer changes) where
  abbrev what_is_asked : Mutation S (Asked S N C) X
  what_is_asked = mutation_over of_text of_bool answers schema values type_of answer changes

  own-tells : (c : X) (node : Asked S N C) (field : Bytes) (given : Given S)
      → TellsInDistinctKeys (own_answer of_text of_bool answers schema (answer c) node field given)
  own-tells c (asked.Own n) field given = same-told asked.Own (answer c n field given) (tells.fields c n field given)
  own-tells c (asked.Part p) field given = record { beside = tt }

  engine-tells : (c : X)
      → AnswersTellDistinctKeys (engine_over of_text of_bool answers schema values (type_of c) (answer c))
  unfolding engine_over
  engine-tells c node object field given =
      told-or (told_of_itself of_text answers schema object field given)
      (own_answer of_text of_bool answers schema (answer c) node field given) (own-tells c node field given)

  steps-tell : StepsTellDistinctKeys what_is_asked
  steps-tell = record {
    below = engine-tells;
    steps = λ c object field given.
        told-or (told_of_itself of_text answers schema object field given)
        (map_answer asked.Own (changes.answer c field given))
        (same-told asked.Own (changes.answer c field given) (tells.roots c field given));
  }

  -- what an operation gives
  pub run-distinct : DataHaveDistinctKeys S (Asked S N C) → FailuresTellDistinctKeys S (Asked S N C)
      → RunsHaveDistinctKeys S (Asked S N C) X
      → (query : Bytes) (node : Asked S N C) (sets : List (Tree S)) (root : Option Bytes) (c : X)
      → HasDistinctRun (run_at what_is_asked query node sets root c)
  run-distinct kept told runs query node sets None c = record {
    members = kept (what_is_asked.engine c) [] query node sets;
    failures = told (what_is_asked.engine c) (engine-tells c) [] query node sets;
  }
  run-distinct kept told runs query node sets (Some root) c = runs what_is_asked steps-tell root c sets

module _ {S X : Type 0} (run : Run S X (Members S)) (distinct : HasDistinctRun run) where
  shown : (v : Option (Members S)) → IfSome v (λ members. HasDistinctKeysThroughout (object_members members))
      → HasDistinctKeysThroughout (unwrap_or (option_map object_members v) value.Null)
  shown (Some members) h = h
  shown None h = (by_forms {S = S}).0

  pub data-distinct : HasDistinctKeysThroughout (data_of run.outcome)
  data-distinct = shown run.outcome.value distinct.members

  -- its failures, in any order
  pub errors-distinct : (errors : List (ExecutionError S)) → IsPermutation run.outcome.failures errors → All TellsDistinctKeys errors
  errors-distinct errors same = All-permutation TellsDistinctKeys run.outcome.failures errors same distinct.failures
