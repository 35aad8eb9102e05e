use Rattle.graphql_schema.proofs.MeantScalars.{scalars_of}
use Rattle.graphql_rules.proofs.LiteralLaws.{arguments_one}
use Rattle.graphql_rules.proofs.laws.told_of_arguments_is_determined.Goals as goal

pub returns : goal.returns
returns g c =
    let scalars = scalars_of g.S.ParseScalarValue g.S.ScalarValue g.S.PartialEq g.S.Check.Check in
    λ subject parts told other h k. arguments_one scalars subject parts told other h k
