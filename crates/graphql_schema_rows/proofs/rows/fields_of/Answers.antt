use Rattle.std.proofs.Common.{◌≡◌, ◌++◌, ◌∷◌, [], rules}
use Rattle.std.specs.List.{AllZip}
use Rattle.graphql_schema_rows.specs.Rows as spec
use Rattle.graphql_schema_rows.proofs.Described.{described_turn, described_whole, handed_on, nowhere, refused_at, row_at}
use Rattle.graphql_schema_rows.proofs.rows.fields_of.Goals as goal

pub returns-in_err-field_of : goal.returns-in_err-field_of
returns-in_err-field_of g c =
    handed_on (AllZip (spec.FieldMeans g.S.ParseScalarValue.reads g.S.ScalarValue.of_bool g.S.ScalarValue.answer) c.args.rows.now) (spec.RefusesField g.S.ParseScalarValue.reads g.S.ScalarValue.of_bool g.S.ScalarValue.answer c.args.head.now (row_at c.args.rows.now c.rows.row-index)) c.from_residual-in_err-field_of.result c.from_residual-in_err-field_of.ensures.1 c.in_err-field_of.ensures
    (refused_at (spec.RefusesField g.S.ParseScalarValue.reads g.S.ScalarValue.of_bool g.S.ScalarValue.answer c.args.head.now) c.args.rows.now c.rows.row-index c.rows-test.true)

pub rows-preserved : goal.rows-preserved
rows-preserved g c =
    let one = c.in_ok-field_of.field-0 in
    let pushed : c.push.new.self ≡ c.rows.fields ++ one ∷ [] = search rules in
    described_turn (spec.FieldMeans g.S.ParseScalarValue.reads g.S.ScalarValue.of_bool g.S.ScalarValue.answer) c.args.rows.now c.rows.row-index nowhere c.rows.fields c.push.new.self one c.rows-test.true pushed c.rows.invariant c.in_ok-field_of.ensures

pub returns : goal.returns
returns g c = described_whole (spec.FieldMeans g.S.ParseScalarValue.reads g.S.ScalarValue.of_bool g.S.ScalarValue.answer) c.args.rows.now c.rows.row-index c.rows.fields c.rows-test.false c.rows.invariant
