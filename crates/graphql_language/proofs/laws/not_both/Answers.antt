use Rattle.graphql_language.proofs.TextLaws as laws
use Rattle.graphql_language.proofs.laws.not_both.Goals as goal

pub returns : goal.returns
returns g c = laws.not_both {S = g.row.S.Denot} g.S.ParseScalarValue.reads g.S.ScalarValue.of_bool
