-- What holds of answers (GraphQL October 2021, 6.4.4 Handling Field Errors, 7.2.2 Serialized Map
-- Ordering).
use Rattle.std.specs.Prelude.{◌≡◌, List}
use Rattle.std.specs.declared.cmp.Ordering.{Ordering}
use Rattle.graphql_names.specs.Names.{Bytes}
use Rattle.graphql_scalars.specs.ScalarAnswers.{ScalarAnswer}
use Rattle.graphql_output_values.specs.DistinctKeys.{HasDistinctKeysThroughout}
use Rattle.graphql_output_values.specs.declared.value.Value.{Value}
use Rattle.graphql_field_results.specs.declared.execution_error.ExecutionError.{ExecutionError}
use Rattle.graphql_answers.specs.Lines.{line_of}
use Rattle.graphql_executor.specs.Answered.{Asking, IsAnswered}
use Rattle.graphql_executor.specs.Requests.{Scalars}
use Rattle.graphql_executor.specs.Resolvers.{Resolver}

-- the JSON line of a value of which each object has distinct keys, however deep
pub record IsLineOfDistinctKeys (bytes : Bytes) : Type 0 where
  pub found : Value ScalarAnswer
  pub is : bytes ≡ line_of found
  pub distinct : HasDistinctKeysThroughout found

-- each object in the data that a request is answered has distinct keys, however deep
abbrev pub DataHaveDistinctKeys : {S C N X : Type 0} → Scalars S C → Resolver S N X → Type 0
DataHaveDistinctKeys {S} {C} {N} {X} s r =
    (a : Asking S C) (cmp : ExecutionError S → ExecutionError S → Ordering) (old new : X)
    (answered : Value S) (errors : List (ExecutionError S))
    → IsAnswered s a r cmp old answered errors new → HasDistinctKeysThroughout answered
