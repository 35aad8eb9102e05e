-- What two calls have answered (GraphQL October 2021, 7.1 Response Format).
use Rattle.std.specs.Prelude.{◌≡◌, ◌↔◌, List, [], Result, Ok, Err}
use Rattle.graphql_names.specs.Names.{Bytes}
use Rattle.graphql_output_values.specs.declared.value.Value.{Value}
use Rattle.graphql_field_results.specs.declared.execution_error.ExecutionError.{ExecutionError}
use Rattle.graphql_service.specs.PlainRequests.{Memory, PlainError}

-- the data and the errors of an operation
abbrev pub Response : Type 0 → Type 0
Response S = Value S × List (ExecutionError S)

-- the same data, errors in both or in neither, and the same context afterwards
abbrev pub AreResponsesAlike : {S X : Type 0} → Response S → X → Response S → X → Type 0
AreResponsesAlike one new other after =
    (one.0 ≡ other.0) × ((one.1 ≡ []) ↔ (other.1 ≡ [])) × (new ≡ after)

-- it is this text, or else memory ran out; `bytes_of`: the bytes of a text
abbrev pub IsTheSameText : {A : Type 0} → (A → Bytes) → Bytes → Result A PlainError → Type 0
IsTheSameText bytes_of text (Ok again) = bytes_of again ≡ text
IsTheSameText bytes_of text (Err error) = error ≡ Memory
