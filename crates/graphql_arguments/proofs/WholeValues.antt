-- A literal among whose variables none is listed is itself.
use Rattle.std.proofs.Common.{◌≡◌, [], Option, Some}
use Rattle.graphql_text.specs.declared.text.Text.{Text}
use Rattle.graphql_values.specs.Variables.{names_of_variables}
use Rattle.graphql_values.specs.declared.input_value.InputValue.{InputValue}
use Rattle.graphql_values.proofs.VariableLaws.{none_is_listed}
use Rattle.graphql_written_out.specs.Filled.{filled}
use Rattle.graphql_written_out.proofs.FilledLaws.{constants_stay}

pub stays_whole : {S : Type 0} (given : Text → Option (InputValue S)) (v : InputValue S) → names_of_variables v ≡ [] → filled given v ≡ Some v
stays_whole {S} given v empty = constants_stay S given v ((none_is_listed S v).0 empty)
