use Rattle.graphql_schema_files.specs.DraftedTypes.{FieldHasTypes}
use Rattle.graphql_literal_checks.proofs.Decided.{all_held, all_refuted, all_turn, fails, holds, refuted}
use Rattle.graphql_schema_files.proofs.typed.fields_have_types.Goals as goal

pub returns-then-not-branch : goal.returns-then-not-branch
returns-then-not-branch c =
    fails (all_refuted FieldHasTypes c.args.fields.now c.fields.field-index c.field-item.result c.fields-test.true c.field-item.is (refuted c.in_ok-field_has_types.field-0 c.if-not-branch.true c.in_ok-field_has_types.ensures))

pub fields-preserved : goal.fields-preserved
fields-preserved c =
    all_turn FieldHasTypes c.args.fields.now c.fields.field-index c.field-item.result c.fields-test.true c.field-item.is c.fields.invariant (c.in_ok-field_has_types.ensures.0 c.if-not-branch.false)

pub returns : goal.returns
returns c = holds (all_held FieldHasTypes c.args.fields.now c.fields.field-index c.fields-test.false c.fields.invariant)
