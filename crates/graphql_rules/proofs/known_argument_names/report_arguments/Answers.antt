use Rattle.std.proofs.Common.{◌≡◌, take, subst, arith}
use Rattle.std.specs.List.{flat_map}
use Rattle.std.proofs.lemmas.List.{take_all}
use Rattle.graphql_occurrences.specs.Lent.{arguments_lent}
use Rattle.graphql_visitors.specs.Reports.{Reports}
use Rattle.graphql_rules.specs.KnownArgumentNames.{undeclared}
use Rattle.graphql_visitors.proofs.ReportLemmas.{reports_next}
use Rattle.graphql_rules.proofs.known_argument_names.report_arguments.Goals as goal

pub arguments-preserved : goal.arguments-preserved
arguments-preserved g c =
    reports_next (undeclared (arguments_lent c.args.declared)) c.args.arguments.now c.arguments.argument-index c.argument-item.result c.arguments-test.true c.argument-item.is
    c.args.context.now c.arguments.context c.report_argument.new.context c.arguments.invariant c.report_argument.ensures

pub returns : goal.returns
returns g c =
    let whole : take c.arguments.argument-index c.args.arguments.now ≡ c.args.arguments.now = take_all c.arguments.argument-index c.args.arguments.now (omega arith) in
    subst (λ xs. Reports (flat_map (undeclared (arguments_lent c.args.declared)) xs) c.args.context.now c.arguments.context) whole c.arguments.invariant
