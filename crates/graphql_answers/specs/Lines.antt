-- Answers as lines of JSON (GraphQL October 2021, 7.2 Serialization Format; RFC 8259).
use Rattle.std.specs.Prelude.{◌≡◌, ◌==◌, false, List, [], ◌∷◌, ◌++◌}
use Rattle.std.specs.List.{All, list_any}
use Rattle.graphql_names.specs.Names.{Bytes}
use Rattle.graphql_scalars.specs.ScalarAnswers.{ScalarAnswer}
use Rattle.graphql_output_values.specs.DistinctKeys.{HasDistinctKeysThroughout}
use Rattle.graphql_output_values.specs.declared.value.Value.{Value}
use Rattle.graphql_field_results.specs.declared.execution_error.ExecutionError.{ExecutionError}
use Rattle.graphql_rule_errors.specs.declared.rule_error.RuleError.{RuleError}
use Rattle.graphql_json.specs.Json.{json}
use Rattle.graphql_answers.specs.Responses.{plain_answer_of, refusal_response, response_of}

-- one line: it ends with a line feed, and holds no other
pub record IsLine (bytes : Bytes) : Type 0 where
  pub front : Bytes
  pub is : bytes ≡ front ++ 10 ∷ []
  pub no_feed : list_any (λ b. b == 10) front ≡ false

-- the JSON of what a request is answered
abbrev pub answer_json : Value ScalarAnswer → Bytes
answer_json v = json (λ scalar. scalar) v

-- that JSON, and a line feed
abbrev pub line_of : Value ScalarAnswer → Bytes
line_of v = answer_json v ++ 10 ∷ []

abbrev pub ValuesAreLines : Type 0
ValuesAreLines = (v : Value ScalarAnswer) → IsLine (line_of v)

-- what is told beside an error has distinct keys, however deep
abbrev pub ToldInDistinctKeys : {S : Type 0} → ExecutionError S → Type 0
ToldInDistinctKeys error = HasDistinctKeysThroughout error.error.extensions

-- each object in an answer has distinct keys, however deep, where those have that it takes over
-- (7.2.2 Serialized Map Ordering)
abbrev pub AnswersHaveDistinctKeys : {S : Type 0} → (S → ScalarAnswer) → Type 0
AnswersHaveDistinctKeys {S} answer =
    ((answered : Value S) (errors : List (ExecutionError S)) → HasDistinctKeysThroughout answered
    → All ToldInDistinctKeys errors
    → HasDistinctKeysThroughout (response_of answer answered errors))
    × ((errors : List RuleError) → HasDistinctKeysThroughout (refusal_response errors))

-- the answer that tells a plain text has distinct keys
abbrev pub PlainHasDistinctKeys : Type 0
PlainHasDistinctKeys = (plain : Bytes) → HasDistinctKeysThroughout (plain_answer_of plain)
