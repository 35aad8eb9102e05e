use Rattle.graphql_schema.proofs.MeantScalars.{scalars_of}
use Rattle.graphql_literal_checks.specs.Defaults.{ArgumentConforms}
use Rattle.graphql_literal_checks.proofs.Decided.{all_held, all_refuted, all_turn, fails, holds, refuted}
use Rattle.graphql_literal_checks.proofs.defaults.arguments_conform.Goals as goal

pub returns-then-not-branch : goal.returns-then-not-branch
returns-then-not-branch g c =
    let scalars = scalars_of g.S.ParseScalarValue g.S.ScalarValue g.S.PartialEq g.S.Check.Check in
    let fact = ArgumentConforms scalars c.args.schema.now.types in
    fails (all_refuted fact c.args.arguments.now c.arguments.argument-index c.argument-item.result c.arguments-test.true c.argument-item.is (refuted c.in_ok-argument_conforms.field-0 c.if-not-branch.true c.in_ok-argument_conforms.ensures))

pub arguments-preserved : goal.arguments-preserved
arguments-preserved g c =
    let scalars = scalars_of g.S.ParseScalarValue g.S.ScalarValue g.S.PartialEq g.S.Check.Check in
    let fact = ArgumentConforms scalars c.args.schema.now.types in
    all_turn fact c.args.arguments.now c.arguments.argument-index c.argument-item.result c.arguments-test.true c.argument-item.is c.arguments.invariant (c.in_ok-argument_conforms.ensures.0 c.if-not-branch.false)

pub returns : goal.returns
returns g c =
    let scalars = scalars_of g.S.ParseScalarValue g.S.ScalarValue g.S.PartialEq g.S.Check.Check in
    holds (all_held (ArgumentConforms scalars c.args.schema.now.types) c.args.arguments.now c.arguments.argument-index c.arguments-test.false c.arguments.invariant)
