use Rattle.graphql_schema.proofs.MeantScalars.{scalars_of}
use Rattle.graphql_variable_checks.proofs.RefusalLemmas.{told_one}
use Rattle.graphql_variable_checks.proofs.laws.told_of_variables_is_determined.Goals as goal

pub returns : goal.returns
returns g c =
    let scalars = scalars_of g.S.ParseScalarValue g.S.ScalarValue g.S.PartialEq g.S.Check.Check in
    λ types given definitions told other h k. told_one scalars types given definitions told other h k
