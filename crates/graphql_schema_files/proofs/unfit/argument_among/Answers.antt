use Rattle.graphql_schema.proofs.MeantScalars.{scalars_of}
use Rattle.std.proofs.Common.{None, subst}
use Rattle.graphql_literal_checks.proofs.Decided.{all_held, all_turn}
use Rattle.graphql_schema_files.specs.UnfitDefaults.{IsUnfitArgument}
use Rattle.graphql_schema_files.proofs.FirstPlaces.{first_found}
use Rattle.graphql_schema_files.proofs.unfit.argument_among.Goals as goal

pub returns-in-Some : goal.returns-in-Some
returns-in-Some g c =
    let scalars = scalars_of g.S.ParseScalarValue g.S.ScalarValue g.S.PartialEq g.S.Check.Check in
    let this = c.argument-item.result in
    let at = IsUnfitArgument scalars c.args.schema.now.types in
    let gives = subst (at this) c.in-Some.is c.in_ok-name.ensures in
    first_found at c.args.arguments.now c.arguments.argument-index this c.in-Some.name c.arguments-test.true c.argument-item.is c.arguments.invariant (gives.0) gives

pub arguments-preserved : goal.arguments-preserved
arguments-preserved g c =
    let scalars = scalars_of g.S.ParseScalarValue g.S.ScalarValue g.S.PartialEq g.S.Check.Check in
    let this = c.argument-item.result in
    let at = IsUnfitArgument scalars c.args.schema.now.types in
    all_turn (λ x. at x None) c.args.arguments.now c.arguments.argument-index this c.arguments-test.true c.argument-item.is c.arguments.invariant (subst (at this) c.in-None.is c.in_ok-name.ensures)

pub returns : goal.returns
returns g c =
    let scalars = scalars_of g.S.ParseScalarValue g.S.ScalarValue g.S.PartialEq g.S.Check.Check in
    all_held (λ x. IsUnfitArgument scalars c.args.schema.now.types x None) c.args.arguments.now c.arguments.argument-index c.arguments-test.false c.arguments.invariant
