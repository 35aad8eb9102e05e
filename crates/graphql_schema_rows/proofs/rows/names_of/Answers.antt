use Rattle.std.proofs.Common.{◌≡◌, ◌++◌, ◌∷◌, [], rules}
use Rattle.std.specs.List.{AllZip}
use Rattle.graphql_schema_rows.specs.Rows as spec
use Rattle.graphql_schema_rows.proofs.Described.{described_turn, described_whole, handed_on, nowhere, refused_at, row_at}
use Rattle.graphql_schema_rows.proofs.rows.names_of.Goals as goal

pub returns-in_err-name_of : goal.returns-in_err-name_of
returns-in_err-name_of c =
    handed_on (AllZip spec.NameMeans c.args.texts.now) (spec.RefusesName (row_at c.args.texts.now c.texts.text-index)) c.from_residual-in_err-name_of.result c.from_residual-in_err-name_of.ensures.1 c.in_err-name_of.ensures
    (refused_at spec.RefusesName c.args.texts.now c.texts.text-index c.texts-test.true)

pub texts-preserved : goal.texts-preserved
texts-preserved c =
    let one = c.in_ok-name_of.field-0 in
    let pushed : c.push.new.self ≡ c.texts.names ++ one ∷ [] = search rules in
    described_turn spec.NameMeans c.args.texts.now c.texts.text-index nowhere c.texts.names c.push.new.self one c.texts-test.true pushed c.texts.invariant c.in_ok-name_of.ensures

pub returns : goal.returns
returns c = described_whole spec.NameMeans c.args.texts.now c.texts.text-index c.texts.names c.texts-test.false c.texts.invariant
