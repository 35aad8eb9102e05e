-- Answers as they are written, text by text (RFC 8259; GraphQL October 2021, 7.2 Serialization
-- Format): the JSON of the values of `Responses`.
use Rattle.std.specs.Prelude.{◌+◌, List, [], ◌∷◌, ◌++◌, map, codes}
use Rattle.std.specs.Fmt.{decimal}
use Rattle.graphql_text.specs.declared.position.SourcePosition.{SourcePosition}
use Rattle.graphql_names.specs.Names.{Bytes}
use Rattle.graphql_scalars.specs.ScalarAnswers.{ScalarAnswer}
use Rattle.graphql_output_values.specs.declared.value.Value.{Value, fold-Value}
use Rattle.graphql_output_values.specs.declared.value.Value.TheOpen.{Value-F}
use Rattle.graphql_field_results.specs.declared.execution_error.ExecutionError.{ExecutionError}
use Rattle.graphql_rule_errors.specs.declared.rule_error.RuleError.{RuleError}
use Rattle.graphql_json.specs.Json.{json, json_text, joined}

abbrev pub location_text : SourcePosition → Bytes
location_text place = codes "{\"line\":" ++ (decimal (place.line + 1)
    ++ (codes ",\"column\":" ++ (decimal (place.column + 1) ++ codes "}")))

abbrev pub locations_text : List SourcePosition → Bytes
locations_text [] = []
locations_text (place ∷ places) =
    codes ",\"locations\":[" ++ (joined [] (map location_text (place ∷ places)) ++ codes "]")

-- an error of a request as a JSON object
abbrev pub request_error_text : RuleError → Bytes
request_error_text error = codes "{\"message\":"
    ++ (json_text error.message ++ (locations_text error.locations ++ codes "}"))

abbrev pub refusal_text : List RuleError → Bytes
refusal_text errors =
    codes "{\"errors\":[" ++ (joined [] (map request_error_text errors) ++ codes "]}")

abbrev pub plain_answer_text : Bytes → Bytes
plain_answer_text plain = codes "{\"plain\":" ++ (json_text plain ++ codes "}")

-- where a field without a value starts, and its path
abbrev pub where_text : {S : Type 0} → ExecutionError S → Bytes
where_text error = codes ",\"locations\":[" ++ (location_text error.location
    ++ (codes "],\"path\":[" ++ (joined [] (map json_text error.path) ++ codes "]")))

module _ {S : Type 0} (answer : S → ScalarAnswer) where
  abbrev pub extensions_text_layer : {X O : Type 0} → Value S → Value-F S X O → Bytes
  extensions_text_layer beside Value-F.Null = []
  extensions_text_layer beside _ = codes ",\"extensions\":" ++ json answer beside

  abbrev pub extensions_text : Value S → Bytes
  extensions_text beside = fold-Value S Bytes Bytes (extensions_text_layer beside) (λ o. []) beside

  abbrev pub field_error_text : ExecutionError S → Bytes
  field_error_text error = codes "{\"message\":" ++ (json_text error.error.message
      ++ (where_text error ++ (extensions_text error.error.extensions ++ codes "}")))

  abbrev pub errors_text : List (ExecutionError S) → Bytes
  errors_text [] = []
  errors_text (error ∷ errors) =
      codes ",\"errors\":[" ++ (joined [] (map field_error_text (error ∷ errors)) ++ codes "]")

  abbrev pub response_text : Value S → List (ExecutionError S) → Bytes
  response_text answered errors =
      codes "{\"data\":" ++ (json answer answered ++ (errors_text errors ++ codes "}"))
