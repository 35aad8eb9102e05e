use Rattle.graphql_schema_files.specs.DraftedTypes.{ArgumentHasType}
use Rattle.graphql_literal_checks.proofs.Decided.{all_held, all_refuted, all_turn, fails, holds, refuted}
use Rattle.graphql_schema_files.proofs.typed.arguments_have_types.Goals as goal

pub returns-then-not-branch : goal.returns-then-not-branch
returns-then-not-branch c =
    fails (all_refuted ArgumentHasType c.args.arguments.now c.arguments.argument-index c.argument-item.result c.arguments-test.true c.argument-item.is (refuted c.in_ok-is_type.field-0 c.if-not-branch.true c.in_ok-is_type.ensures))

pub arguments-preserved : goal.arguments-preserved
arguments-preserved c =
    all_turn ArgumentHasType c.args.arguments.now c.arguments.argument-index c.argument-item.result c.arguments-test.true c.argument-item.is c.arguments.invariant (c.in_ok-is_type.ensures.0 c.if-not-branch.false)

pub returns : goal.returns
returns c = holds (all_held ArgumentHasType c.args.arguments.now c.arguments.argument-index c.arguments-test.false c.arguments.invariant)
