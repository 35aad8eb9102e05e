use Rattle.graphql_language.proofs.LiteralLaws as laws
use Rattle.graphql_language.proofs.parser_laws.value_or_refused.Goals as goal

pub returns-clause-one : goal.returns-clause-one
returns-clause-one g c = laws.value_or_refused {S = g.row.S.Denot} g.S.ParseScalarValue.reads g.S.ScalarValue.of_bool

pub returns-clause-never_both : goal.returns-clause-never_both
returns-clause-never_both g c = laws.value_never_both {S = g.row.S.Denot} g.S.ParseScalarValue.reads g.S.ScalarValue.of_bool

pub returns-clause-one_fault : goal.returns-clause-one_fault
returns-clause-one_fault g c = laws.value_one_fault {S = g.row.S.Denot} g.S.ParseScalarValue.reads g.S.ScalarValue.of_bool
