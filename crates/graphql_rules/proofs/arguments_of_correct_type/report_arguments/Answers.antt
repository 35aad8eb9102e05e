use Rattle.graphql_schema.proofs.MeantScalars.{scalars_of}
use Rattle.std.proofs.Common.{◌≡◌, take, subst, arith}
use Rattle.std.specs.List.{flat_map}
use Rattle.std.proofs.lemmas.List.{take_all}
use Rattle.graphql_occurrences.specs.Lent.{arguments_lent}
use Rattle.graphql_visitors.specs.Reports.{ReportsBy}
use Rattle.graphql_rules.specs.ArgumentsOfCorrectType.{literal_of}
use Rattle.graphql_rules.specs.Literals.{LiteralJudged, Misfits}
use Rattle.graphql_rules.proofs.TellLemmas.{reports_next}
use Rattle.graphql_rules.proofs.arguments_of_correct_type.report_arguments.Goals as goal

pub arguments-preserved : goal.arguments-preserved
arguments-preserved g c =
    let scalars = scalars_of g.S.ParseScalarValue g.S.ScalarValue g.S.PartialEq g.S.Check.Check in
    reports_next (LiteralJudged scalars) (literal_of (arguments_lent c.args.declared)) c.args.given.now c.arguments.argument-index c.argument-item.result c.arguments-test.true c.argument-item.is
    c.args.context.now c.arguments.context c.report_argument.new.context c.arguments.invariant c.report_argument.ensures

pub returns : goal.returns
returns g c =
    let scalars = scalars_of g.S.ParseScalarValue g.S.ScalarValue g.S.PartialEq g.S.Check.Check in
    let whole : take c.arguments.argument-index c.args.given.now ≡ c.args.given.now = take_all c.arguments.argument-index c.args.given.now (omega arith) in
    let types = c.args.context.now.schema.now.types in
    subst (λ xs. ReportsBy (Misfits scalars types (flat_map (literal_of (arguments_lent c.args.declared)) xs)) c.args.context.now c.arguments.context) whole c.arguments.invariant
