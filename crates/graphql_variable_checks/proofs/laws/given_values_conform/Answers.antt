use Rattle.graphql_schema.proofs.MeantScalars.{scalars_of}
use Rattle.graphql_variable_checks.proofs.LawLemmas.{given_conform}
use Rattle.graphql_variable_checks.proofs.laws.given_values_conform.Goals as goal

pub returns : goal.returns
returns g c =
    let scalars = scalars_of g.S.ParseScalarValue g.S.ScalarValue g.S.PartialEq g.S.Check.Check in
    given_conform scalars
