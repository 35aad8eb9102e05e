-- How answer lines begin and end (GraphQL October 2021, 7.1 Response Format).
use Rattle.std.specs.Prelude.{◌≡◌, Bool, true, false, List, ◌∷◌, codes, nat_eq}
use Rattle.std.specs.List.{ends_with, starts_with}
use Rattle.graphql_names.specs.Names.{Bytes}
use Rattle.graphql_scalars.specs.ScalarAnswers.{ScalarAnswer}
use Rattle.graphql_output_values.specs.declared.value.Value.{Value}
use Rattle.graphql_field_results.specs.declared.execution_error.ExecutionError.{ExecutionError}
use Rattle.graphql_rule_errors.specs.declared.rule_error.RuleError.{RuleError}
use Rattle.graphql_answers.specs.Lines.{line_of}
use Rattle.graphql_answers.specs.Responses.{refusal_response, response_of}

-- the text is that of an object whose first key is `data`
abbrev pub begins_with_data : Bytes → Bool
begins_with_data text = starts_with nat_eq text (codes "{\"data\":")

-- the text ends with the end of a list, that of an object and a line feed
abbrev pub ends_with_list : Bytes → Bool
ends_with_list text = ends_with nat_eq text (codes "]}\n")

-- by what scalars answer
module _ {S : Type 0} (answer : S → ScalarAnswer) where
  -- the line of an answer begins with `data`, that of a refusal does not; where there are errors,
  -- their list ends the line
  abbrev pub LinesShowErrors : Type 0
  LinesShowErrors =
      ((errors : List RuleError) → begins_with_data (line_of (refusal_response errors)) ≡ false)
      × ((found : Value S) (errors : List (ExecutionError S))
      → begins_with_data (line_of (response_of answer found errors)) ≡ true)
      × ((found : Value S) (error : ExecutionError S) (errors : List (ExecutionError S))
      → ends_with_list (line_of (response_of answer found (error ∷ errors))) ≡ true)
