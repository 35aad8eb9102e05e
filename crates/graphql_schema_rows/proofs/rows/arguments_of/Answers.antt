use Rattle.std.proofs.Common.{◌≡◌, ◌++◌, ◌∷◌, [], rules}
use Rattle.std.specs.List.{AllZip}
use Rattle.graphql_schema_rows.specs.Rows as spec
use Rattle.graphql_schema_rows.proofs.Described.{described_turn, described_whole, handed_on, nowhere, refused_at, row_at}
use Rattle.graphql_schema_rows.proofs.rows.arguments_of.Goals as goal

pub returns-in_err-argument_of : goal.returns-in_err-argument_of
returns-in_err-argument_of g c =
    handed_on (AllZip (spec.ArgumentMeans g.S.ParseScalarValue.reads g.S.ScalarValue.of_bool) c.args.rows.now) (spec.RefusesArgument g.S.ParseScalarValue.reads g.S.ScalarValue.of_bool c.args.head.now (row_at c.args.rows.now c.rows.row-index)) c.from_residual-in_err-argument_of.result c.from_residual-in_err-argument_of.ensures.1 c.in_err-argument_of.ensures
    (refused_at (spec.RefusesArgument g.S.ParseScalarValue.reads g.S.ScalarValue.of_bool c.args.head.now) c.args.rows.now c.rows.row-index c.rows-test.true)

pub rows-preserved : goal.rows-preserved
rows-preserved g c =
    let one = c.in_ok-argument_of.field-0 in
    let pushed : c.push.new.self ≡ c.rows.arguments ++ one ∷ [] = search rules in
    described_turn (spec.ArgumentMeans g.S.ParseScalarValue.reads g.S.ScalarValue.of_bool) c.args.rows.now c.rows.row-index nowhere c.rows.arguments c.push.new.self one c.rows-test.true pushed c.rows.invariant c.in_ok-argument_of.ensures

pub returns : goal.returns
returns g c = described_whole (spec.ArgumentMeans g.S.ParseScalarValue.reads g.S.ScalarValue.of_bool) c.args.rows.now c.rows.row-index c.rows.arguments c.rows-test.false c.rows.invariant
