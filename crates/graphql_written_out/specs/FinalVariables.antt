-- The final values that are held of an operation's variables (GraphQL October 2021, 6.1.2 Coercing
-- Variable Values).
use Rattle.std.specs.Prelude.{Option}
use Rattle.std.specs.HashMap.{get_by_text}
use Rattle.graphql_names.specs.Names.{Bytes}
use Rattle.graphql_values.specs.declared.input_value.InputValue.{InputValue}
use Rattle.graphql_written_out.specs.FinalValues.{final_value}
use Rattle.graphql_written_out.specs.declared.final_variables.FinalVariables.{FinalVariables}

-- the final value of a name
abbrev pub value_in : {S : Type 0} → FinalVariables S → Bytes → Option (InputValue S)
value_in values = final_value (get_by_text values.variables.now) values.definitions.now
