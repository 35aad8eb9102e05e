use Rattle.graphql_schema.proofs.MeantScalars.{scalars_of}
use Rattle.graphql_literal_checks.specs.Defaults.{FieldConforms}
use Rattle.graphql_literal_checks.proofs.Decided.{all_held, all_refuted, all_turn, fails, holds, refuted}
use Rattle.graphql_literal_checks.proofs.defaults.fields_conform.Goals as goal

pub returns-then-not-branch : goal.returns-then-not-branch
returns-then-not-branch g c =
    let scalars = scalars_of g.S.ParseScalarValue g.S.ScalarValue g.S.PartialEq g.S.Check.Check in
    let fact = FieldConforms scalars c.args.schema.now.types in
    fails (all_refuted fact c.args.fields.now c.fields.field-index c.field-item.result c.fields-test.true c.field-item.is (refuted c.in_ok-field_conforms.field-0 c.if-not-branch.true c.in_ok-field_conforms.ensures))

pub fields-preserved : goal.fields-preserved
fields-preserved g c =
    let scalars = scalars_of g.S.ParseScalarValue g.S.ScalarValue g.S.PartialEq g.S.Check.Check in
    let fact = FieldConforms scalars c.args.schema.now.types in
    all_turn fact c.args.fields.now c.fields.field-index c.field-item.result c.fields-test.true c.field-item.is c.fields.invariant (c.in_ok-field_conforms.ensures.0 c.if-not-branch.false)

pub returns : goal.returns
returns g c =
    let scalars = scalars_of g.S.ParseScalarValue g.S.ScalarValue g.S.PartialEq g.S.Check.Check in
    holds (all_held (FieldConforms scalars c.args.schema.now.types) c.args.fields.now c.fields.field-index c.fields-test.false c.fields.invariant)
