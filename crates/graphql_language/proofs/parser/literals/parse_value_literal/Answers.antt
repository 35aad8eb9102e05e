use Rattle.graphql_language.specs.Literals.{NextValue}
use Rattle.graphql_language.proofs.Calls.{calls_kept}
use Rattle.graphql_language.proofs.LiteralLaws.{reads_by_value, fewer_by_value}
use Rattle.graphql_language.proofs.parser.literals.parse_value_literal.Goals as goal

pub returns-clause-calls : goal.returns-clause-calls
returns-clause-calls g c = calls_kept (NextValue g.row.S.Denot g.S.ParseScalarValue.reads g.S.ScalarValue.of_bool c.args.is_const) _ _ _ _ c.parser.view_is c.in_ok-ready.ensures
    (reads_by_value {S = g.row.S.Denot} g.S.ParseScalarValue.reads g.S.ScalarValue.of_bool c.args.is_const _ _ _ c.value-answer.ensures.reads c.value-answer.ensures.behind c.value-answer.ensures.stands) c.keep_refusal.ensures

pub returns-clause-fewer : goal.returns-clause-fewer
returns-clause-fewer g c = fewer_by_value {S = g.row.S.Denot} g.S.ParseScalarValue.reads g.S.ScalarValue.of_bool c.args.is_const _ _ _ (returns-clause-calls g c)
