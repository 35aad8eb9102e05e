use Rattle.graphql_schema.proofs.MeantScalars.{scalars_of}
use Rattle.graphql_variable_checks.proofs.LawLemmas.{non_null_valued}
use Rattle.graphql_variable_checks.proofs.laws.non_null_variables_have_values.Goals as goal

pub returns : goal.returns
returns g c =
    let scalars = scalars_of g.S.ParseScalarValue g.S.ScalarValue g.S.PartialEq g.S.Check.Check in
    non_null_valued scalars
