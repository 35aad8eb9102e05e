use Rattle.graphql_schema.proofs.MeantScalars.{scalars_of}
use Rattle.std.proofs.Common.{◌↔◌, IfOk, IsTrue, subst}
use Rattle.std.specs.List.{All}
use Rattle.graphql_literal_checks.specs.Defaults.{ArgumentConforms}
use Rattle.graphql_literal_checks.proofs.defaults.field_conforms.Goals as goal

pub returns : goal.returns
returns g c =
    let scalars = scalars_of g.S.ParseScalarValue g.S.ScalarValue g.S.PartialEq g.S.Check.Check in
    let fact = All (ArgumentConforms scalars c.args.schema.now.types) in
    subst (λ arguments. IfOk c.arguments_conform.result (λ told. IsTrue told ↔ fact arguments)) c.arguments.ensures c.arguments_conform.ensures
