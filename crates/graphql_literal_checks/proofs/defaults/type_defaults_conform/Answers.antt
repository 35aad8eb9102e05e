use Rattle.std.proofs.Common.{◌≡◌, Some, None, rules}
use Rattle.graphql_schema.proofs.MeantScalars.{scalars_of}
use Rattle.graphql_schema.specs.Lookups.{type_named}
use Rattle.graphql_literal_checks.specs.Defaults.{TypeConforms}
use Rattle.graphql_literal_checks.proofs.Conformed.{if_absent, if_there}
use Rattle.graphql_literal_checks.proofs.defaults.type_defaults_conform.Goals as goal

pub returns-in-Some : goal.returns-in-Some
returns-in-Some g c =
    let scalars = scalars_of g.S.ParseScalarValue g.S.ScalarValue g.S.PartialEq g.S.Check.Check in
    let types = c.args.schema.now.types in
    let found : type_named types c.args.name.now ≡ Some c.in-Some.meta.now = search rules in
    if_there (TypeConforms scalars types) (type_named types c.args.name.now) c.in-Some.meta.now c.type_conforms.result found c.type_conforms.ensures

pub returns-in-None : goal.returns-in-None
returns-in-None g c =
    let scalars = scalars_of g.S.ParseScalarValue g.S.ScalarValue g.S.PartialEq g.S.Check.Check in
    let types = c.args.schema.now.types in
    let found : type_named types c.args.name.now ≡ None = search rules in
    if_absent (TypeConforms scalars types) (type_named types c.args.name.now) found
