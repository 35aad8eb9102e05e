use Rattle.graphql_schema.proofs.MeantScalars.{scalars_of}
use Rattle.graphql_plain_validity.proofs.LiteralRules.{arguments-stay}
use Rattle.graphql_plain_validity.proofs.rules.arguments_stay_conforming.Goals as goal

pub returns : goal.returns
returns g c = λ schema.
    arguments-stay (scalars_of g.S.ParseScalarValue g.S.ScalarValue g.S.PartialEq g.S.Check.Check) g.met.S.Eq.laws
    g.met.S.Check.Check.respects_same schema
