use Rattle.graphql_language.specs.Literals.{NextValue}
use Rattle.graphql_law_rows.proofs.Parsed.{answered_alone}
use Rattle.graphql_law_rows.proofs.parsers.value_alone.Goals as goal

pub returns : goal.returns
returns g c = λ fresh.
    let law = c.value_or_refused.ensures in
    answered_alone (NextValue g.row.S.Denot g.S.ParseScalarValue.reads g.S.ScalarValue.of_bool c.args.is_const)
    (law.never_both c.args.is_const) (law.one_fault c.args.is_const)
    c.args.parser.now c.parse_value_literal.new.parser c.parse_value_literal.result c.parse_value_literal.ensures.calls fresh
