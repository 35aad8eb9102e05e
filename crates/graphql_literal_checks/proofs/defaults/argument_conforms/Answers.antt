use Rattle.graphql_schema.proofs.MeantScalars.{scalars_of}
use Rattle.std.proofs.Common.{◌≡◌, Some, rules}
use Rattle.graphql_literal_checks.specs.Conforms.{Conforms}
use Rattle.graphql_literal_checks.specs.declared.source.Source.TheVariants.{Literal}
use Rattle.graphql_literal_checks.proofs.Conformed.{if_there}
use Rattle.graphql_literal_checks.proofs.defaults.argument_conforms.Goals as goal

pub returns-in-Some : goal.returns-in-Some
returns-in-Some g c =
    let scalars = scalars_of g.S.ParseScalarValue g.S.ScalarValue g.S.PartialEq g.S.Check.Check in
    let is : c.args.argument.now.default_value ≡ Some c.in-Some.value = search rules in
    if_there (Conforms scalars c.args.schema.now.types Literal c.args.argument.now.arg_type) c.args.argument.now.default_value c.in-Some.value c.value_conforms.result is c.value_conforms.ensures
