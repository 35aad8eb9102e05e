use Rattle.graphql_language.proofs.TextLaws as laws
use Rattle.graphql_language.proofs.laws.document_or_refused.Goals as goal

pub returns : goal.returns
returns g c = laws.document_or_refused {S = g.row.S.Denot} g.S.ParseScalarValue.reads g.S.ScalarValue.of_bool
