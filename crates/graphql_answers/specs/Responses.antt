-- What a request is answered, as a value whose scalars are integers, booleans and texts (GraphQL
-- October 2021, 7.1 Response Format).
use Rattle.std.specs.Prelude.{◌+◌, ℕ, pos, List, [], ◌∷◌, map, codes}
use Rattle.graphql_text.specs.declared.position.SourcePosition.{SourcePosition}
use Rattle.graphql_names.specs.Names.{Bytes}
use Rattle.graphql_scalars.specs.ScalarAnswers.{ScalarAnswer, integer, text}
use Rattle.graphql_output_values.specs.Objects.{Pair}
use Rattle.graphql_output_values.specs.Values.{map_scalars}
use Rattle.graphql_output_values.specs.declared.value.Value.{Value, fold-Value}
use Rattle.graphql_output_values.specs.declared.value.Value.TheOpen.{Value-F}
use Rattle.graphql_output_values.specs.declared.value.Value.TheVariants as value
use Rattle.graphql_field_results.specs.declared.execution_error.ExecutionError.{ExecutionError}
use Rattle.graphql_rule_errors.specs.declared.rule_error.RuleError.{RuleError}

-- an object of these fields, in order
abbrev pub object_of : List (Pair (Value ScalarAnswer)) → Value ScalarAnswer
object_of fields = value.Object (record { fields = fields })

abbrev pub text_value : Bytes → Value ScalarAnswer
text_value bytes = value.Scalar (text bytes)

-- a number of JSON, which may be greater than an `Int`
abbrev pub number_of : ℕ → Value ScalarAnswer
number_of n = value.Scalar (integer (pos n))

-- where an error points (7.1.2 Errors): places count from zero, lines and columns here from one
abbrev pub location_of : SourcePosition → Value ScalarAnswer
location_of place = object_of ((codes "line", number_of (place.line + 1))
    ∷ (codes "column", number_of (place.column + 1)) ∷ [])

-- told where an error points at a place, and else left out
abbrev pub locations_of : List SourcePosition → List (Pair (Value ScalarAnswer))
locations_of [] = []
locations_of (place ∷ places) =
    (codes "locations", value.List (map location_of (place ∷ places))) ∷ []

-- what is told beside an error, left out where it is null: one layer
abbrev pub extensions_layer : {S X O : Type 0} → Value ScalarAnswer → Value-F S X O
    → List (Pair (Value ScalarAnswer))
extensions_layer beside Value-F.Null = []
extensions_layer beside _ = (codes "extensions", beside) ∷ []

abbrev pub extensions_by : {S : Type 0} → Value ScalarAnswer → Value S
    → List (Pair (Value ScalarAnswer))
extensions_by {S} beside = fold-Value S (List (Pair (Value ScalarAnswer)))
    (List (Pair (Value ScalarAnswer))) (extensions_layer beside) (λ o. [])

-- why a request is not executed
abbrev pub request_error_of : RuleError → Value ScalarAnswer
request_error_of error =
    object_of ((codes "message", text_value error.message) ∷ locations_of error.locations)

-- the answer to a request that is refused, and has no data
abbrev pub refusal_response : List RuleError → Value ScalarAnswer
refusal_response errors = object_of
    ((codes "errors", value.List (map request_error_of errors)) ∷ [])

-- the answer that tells a plain text
abbrev pub plain_answer_of : Bytes → Value ScalarAnswer
plain_answer_of plain = object_of ((codes "plain", text_value plain) ∷ [])

-- by what scalars answer
module _ {S : Type 0} (answer : S → ScalarAnswer) where
  abbrev pub extensions_of : Value S → List (Pair (Value ScalarAnswer))
  extensions_of beside = extensions_by (map_scalars answer beside) beside

  -- a field that has no value: why, where it starts, and the response keys from the root of the
  -- data down to it
  abbrev pub field_error_of : ExecutionError S → Value ScalarAnswer
  field_error_of error =
      object_of ((codes "message", text_value error.error.message)
      ∷ (codes "locations", value.List (location_of error.location ∷ []))
      ∷ (codes "path", value.List (map text_value error.path))
      ∷ extensions_of error.error.extensions)

  -- the errors of fields, left out where there is none
  abbrev pub errors_of : List (ExecutionError S) → List (Pair (Value ScalarAnswer))
  errors_of [] = []
  errors_of (error ∷ errors) =
      (codes "errors", value.List (map field_error_of (error ∷ errors))) ∷ []

  -- the answer to a request that is executed
  abbrev pub response_of : Value S → List (ExecutionError S) → Value ScalarAnswer
  response_of answered errors =
      object_of ((codes "data", map_scalars answer answered) ∷ errors_of errors)
