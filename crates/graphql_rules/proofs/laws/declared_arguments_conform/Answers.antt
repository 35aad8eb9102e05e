use Rattle.graphql_schema.proofs.MeantScalars.{scalars_of}
use Rattle.graphql_rules.proofs.LiteralLaws.{arguments_none}
use Rattle.graphql_rules.proofs.laws.declared_arguments_conform.Goals as goal

pub returns : goal.returns
returns g c =
    let scalars = scalars_of g.S.ParseScalarValue g.S.ScalarValue g.S.PartialEq g.S.Check.Check in
    λ subject parts. arguments_none scalars subject parts
