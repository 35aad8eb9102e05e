use Rattle.graphql_schema.proofs.MeantScalars.{scalars_of}
use Rattle.graphql_literal_checks.specs.Defaults.{NamedConforms}
use Rattle.graphql_literal_checks.proofs.Decided.{all_held, refuted}
use Rattle.graphql_literal_checks.proofs.FirstUnfit.{all_named, first_unfit, one_more}
use Rattle.graphql_literal_checks.proofs.defaults.first_with_bad_default.Goals as goal

pub returns-then-not-branch : goal.returns-then-not-branch
returns-then-not-branch g c =
    let scalars = scalars_of g.S.ParseScalarValue g.S.ScalarValue g.S.PartialEq g.S.Check.Check in
    let fact = NamedConforms scalars c.args.schema.now.types in
    first_unfit fact c.args.names.now c.names.name-index c.names-test.true c.names.invariant
    (refuted c.in_ok-type_defaults_conform.field-0 c.if-not-branch.true c.in_ok-type_defaults_conform.ensures)

pub names-preserved : goal.names-preserved
names-preserved g c =
    let scalars = scalars_of g.S.ParseScalarValue g.S.ScalarValue g.S.PartialEq g.S.Check.Check in
    let fact = NamedConforms scalars c.args.schema.now.types in
    one_more fact c.args.names.now c.names.name-index c.names-test.true c.names.invariant
    (c.in_ok-type_defaults_conform.ensures.0 c.if-not-branch.false)

pub returns : goal.returns
returns g c =
    let scalars = scalars_of g.S.ParseScalarValue g.S.ScalarValue g.S.PartialEq g.S.Check.Check in
    let fact = NamedConforms scalars c.args.schema.now.types in
    all_named fact c.args.names.now (all_held (λ name. fact name.now) c.args.names.now c.names.name-index c.names-test.false c.names.invariant)
