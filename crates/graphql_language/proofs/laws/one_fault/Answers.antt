use Rattle.graphql_language.proofs.TextLaws as laws
use Rattle.graphql_language.proofs.laws.one_fault.Goals as goal

pub returns : goal.returns
returns g c = laws.one_fault {S = g.row.S.Denot} g.S.ParseScalarValue.reads g.S.ScalarValue.of_bool
