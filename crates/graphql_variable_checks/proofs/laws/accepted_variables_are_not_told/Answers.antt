use Rattle.graphql_schema.proofs.MeantScalars.{scalars_of}
use Rattle.graphql_variable_checks.proofs.RefusalLemmas.{told_none}
use Rattle.graphql_variable_checks.proofs.laws.accepted_variables_are_not_told.Goals as goal

pub returns : goal.returns
returns g c =
    let scalars = scalars_of g.S.ParseScalarValue g.S.ScalarValue g.S.PartialEq g.S.Check.Check in
    λ types given definitions. told_none scalars types given definitions
