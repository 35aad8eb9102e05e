use Rattle.graphql_schema.proofs.MeantScalars.{scalars_of}
use Rattle.graphql_joins.proofs.JoinedDocuments.{parts-join}
use Rattle.graphql_joins.proofs.laws.parts_join.Goals as goal

pub returns : goal.returns
returns g c =
    parts-join (scalars_of g.S.ParseScalarValue g.S.ScalarValue g.S.PartialEq g.S.Check.Check) g.met.S.Eq.laws _
