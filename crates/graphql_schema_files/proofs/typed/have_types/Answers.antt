use Rattle.graphql_schema_files.specs.DraftedTypes.{TypeHasTypes}
use Rattle.graphql_literal_checks.proofs.Decided.{all_held, all_refuted, all_turn, fails, holds, refuted}
use Rattle.graphql_schema_files.proofs.typed.have_types.Goals as goal

pub returns-then-not-branch : goal.returns-then-not-branch
returns-then-not-branch c =
    fails (all_refuted TypeHasTypes c.args.types.now c.types.draft-index c.draft-item.result c.types-test.true c.draft-item.is (refuted c.in_ok-type_has_types.field-0 c.if-not-branch.true c.in_ok-type_has_types.ensures))

pub types-preserved : goal.types-preserved
types-preserved c =
    all_turn TypeHasTypes c.args.types.now c.types.draft-index c.draft-item.result c.types-test.true c.draft-item.is c.types.invariant (c.in_ok-type_has_types.ensures.0 c.if-not-branch.false)

pub returns : goal.returns
returns c = holds (all_held TypeHasTypes c.args.types.now c.types.draft-index c.types-test.false c.types.invariant)
