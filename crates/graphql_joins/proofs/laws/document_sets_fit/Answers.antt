use Rattle.graphql_schema.proofs.MeantScalars.{scalars_of}
use Rattle.graphql_joins.proofs.JoinedDocuments.{document-sets-fit}
use Rattle.graphql_joins.proofs.laws.document_sets_fit.Goals as goal

pub returns : goal.returns
returns g c =
    document-sets-fit (scalars_of g.S.ParseScalarValue g.S.ScalarValue g.S.PartialEq g.S.Check.Check)
