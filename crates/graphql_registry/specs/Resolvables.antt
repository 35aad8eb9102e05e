-- What values answer (GraphQL October 2021, 6.4.2 Value Resolution).
use Rattle.std.specs.Prelude.{List, [], ◌∷◌, Option, Some, None, Result, Ok, Err}
use Rattle.graphql_text.specs.Memory.{◌>>=◌}
use Rattle.graphql_input_types.specs.Nullables.{some}
use Rattle.graphql_input_types.specs.declared.nullable.Nullable.{Nullable}
use Rattle.graphql_field_results.specs.declared.field_error.FieldError.{FieldError}
use Rattle.graphql_field_results.specs.declared.resolved.Resolved.{Resolved}
use Rattle.graphql_field_results.specs.declared.resolved.Resolved.TheVariants as resolved

-- an answer, or the error of the field
abbrev pub AnswerOf : Type 0 → Type 0 → Type 0
AnswerOf S N = Result (Resolved S N) (FieldError S)

module _ {S N A : Type 0} (answer : A → AnswerOf S N) where
  -- what is not there answers null (3.12 Non-Null)
  abbrev pub answer_of_option : Option A → AnswerOf S N
  answer_of_option (Some x) = answer x
  answer_of_option None = Ok resolved.Null

  abbrev pub answer_of_nullable : Nullable A → AnswerOf S N
  answer_of_nullable x = answer_of_option (some x)

  -- an error is the error of the field that it becomes (6.4.4 Handling Field Errors)
  abbrev pub answer_of_result : {E : Type 0} → (E → FieldError S) → Result A E → AnswerOf S N
  answer_of_result becomes (Ok x) = answer x
  answer_of_result becomes (Err e) = Err (becomes e)

  -- the answers of items, in order, or the error of the first that is one
  abbrev pub answers_of : List A → Result (List (Resolved S N)) (FieldError S)
  answers_of [] = Ok []
  answers_of (x ∷ xs) = answer x >>= (λ first. answers_of xs >>= (λ rest. Ok (first ∷ rest)))

  -- the list of them (3.11 List)
  abbrev pub answer_of_list : List A → AnswerOf S N
  answer_of_list xs = answers_of xs >>= (λ answers. Ok (resolved.List answers))
