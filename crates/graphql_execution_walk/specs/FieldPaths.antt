-- Where fields stand (GraphQL October 2021, 7.1.2 Errors).
use Rattle.std.specs.Prelude.{List, [], ◌∷◌, ◌++◌, ◌-◌, length, Option, slice_get}
use Rattle.graphql_names.specs.Names.{Bytes}
use Rattle.graphql_text.specs.declared.position.SourcePosition.{SourcePosition}
use Rattle.graphql_field_results.specs.declared.execution_error.ExecutionError.{ExecutionError}
use Rattle.graphql_field_results.specs.declared.field_error.FieldError.{FieldError}
use Rattle.graphql_execution_walk.specs.declared.field_path.FieldPath.{FieldPath, fold-FieldPath}
use Rattle.graphql_execution_walk.specs.declared.field_path.FieldPath.{out-FieldPath}
use Rattle.graphql_execution_walk.specs.declared.field_path.FieldPath.TheOpen.{FieldPath-F}

abbrev pub place_layer : {A : Type 0} → FieldPath-F A → SourcePosition
place_layer (FieldPath-F.Root place) = place
place_layer (FieldPath-F.Field key place above) = place
place_layer (FieldPath-F.Keys keys place) = place

-- where the field starts in the request's text
abbrev pub start_of_path : FieldPath → SourcePosition
start_of_path path = place_layer (out-FieldPath path)

abbrev pub keys_layer : FieldPath-F (List Bytes) → List Bytes
keys_layer (FieldPath-F.Root place) = []
keys_layer (FieldPath-F.Field key place above) = above.now ++ key.now ∷ []
keys_layer (FieldPath-F.Keys keys place) = keys.now

-- the response keys from the root of the data down to the field
abbrev pub keys_of : FieldPath → List Bytes
keys_of = fold-FieldPath (List Bytes) keys_layer

-- the field's own, the last of them; the root has none
abbrev pub own_key : FieldPath → Option Bytes
own_key path = slice_get (keys_of path) (length (keys_of path) - 1)

-- the error of the field, told of another place
abbrev pub error_at : {S : Type 0} → SourcePosition → FieldPath → FieldError S → ExecutionError S
error_at place path error = record { location = place; path = keys_of path; error = error }
