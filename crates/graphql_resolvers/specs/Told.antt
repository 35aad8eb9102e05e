-- What a `Given` holds.
use Rattle.std.specs.Prelude.{Option}
use Rattle.graphql_names.specs.Names.{Bytes}
use Rattle.graphql_scalars.specs.declared.default_scalar.DefaultScalarValue.{DefaultScalarValue}
use Rattle.graphql_values.specs.declared.input_value.InputValue.{InputValue}
use Rattle.graphql_arguments.specs.ArgumentValues.{value_named}
use Rattle.graphql_arguments.specs.GivenValues.{arguments_told}
use Rattle.graphql_resolvers.specs.Inputs.{Inputs, field_named, inputs_named}
use Rattle.graphql_resolvers.specs.declared.given.Given.{Given}
use Rattle.graphql_resolvers.specs.declared.given.Source.{Source}
use Rattle.graphql_resolvers.specs.declared.given.Source.TheVariants as source

-- the value under each name
abbrev pub named_in : Source → Bytes → Option (InputValue DefaultScalarValue)
named_in (source.Arguments arguments) = value_named (arguments_told arguments.now)
named_in (source.Fields pairs) = field_named pairs.now

abbrev pub given_to : Given → Inputs
given_to given = inputs_named (named_in given.source)
