use Rattle.std.proofs.Common.{◌≡◌, take, subst, arith}
use Rattle.std.specs.List.{flat_map}
use Rattle.std.proofs.lemmas.List.{take_all}
use Rattle.graphql_visitors.specs.Reports.{Reports}
use Rattle.graphql_names.specs.NameSets.{has_name}
use Rattle.graphql_rules.specs.ProvidedNonNullArguments.{missing}
use Rattle.graphql_visitors.proofs.ReportLemmas.{reports_next}
use Rattle.graphql_rules.proofs.provided_non_null_arguments.report_missing.Goals as goal

pub declared-preserved : goal.declared-preserved
declared-preserved g c =
    reports_next (missing c.args.place (has_name c.args.given.now)) c.args.declared.now c.declared.argument-index c.argument-item.result c.declared-test.true c.argument-item.is
    c.args.context.now c.declared.context c.report_argument.new.context c.declared.invariant c.report_argument.ensures

pub returns : goal.returns
returns g c =
    let whole : take c.declared.argument-index c.args.declared.now ≡ c.args.declared.now = take_all c.declared.argument-index c.args.declared.now (omega arith) in
    subst (λ xs. Reports (flat_map (missing c.args.place (has_name c.args.given.now)) xs) c.args.context.now c.declared.context) whole c.declared.invariant
